use Rattle.std.proofs.Common.{◌/◌, [], length, slice_index_or, sym, ap, ◌∙◌, arith}
use Rattle.std.proofs.lemmas.Bool.Decides.{nat_tests}
use Rattle.words.specs.Words.{word_at}
use Rattle.words.proofs.Bytes.{chunk_word, no_word}
use Rattle.words.proofs.word_at.Goals as goal

pub returns-in_default : goal.returns-in_default
unfolding word_at
returns-in_default c =
    let e = c.in_default.ensures.lookup in
    let f = c.as_chunks.ensures.front_len in
    sym (no_word c.args.bytes.now c.args.place (grind (arith, nat_tests)))

pub returns : goal.returns
unfolding word_at
returns c =
    let (lt, chunk) = c.in-Some.ensures.lookup.3 in
    let count = c.as_chunks.ensures.front_len in
    let whole = chunk [] ∙ ap (λ cs. slice_index_or cs c.args.place []) c.as_chunks.ensures.front in
    c.from_be_bytes.ensures ∙ chunk_word (length c.args.bytes.now / 4) c.args.bytes.now c.args.place c.in-Some.word.now (omega arith) (omega arith) whole
