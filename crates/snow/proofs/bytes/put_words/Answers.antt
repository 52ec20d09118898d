use Rattle.std.proofs.Common.{◌≡◌, ◌+◌, ◌-◌, ◌*◌, ◌++◌, get_or, take, drop, ap, ap₂, ◌∙◌, arith}
use Rattle.std.proofs.lemmas.List.{drop-drop}
use Rattle.words.proofs.Words.{be_bytes}
use Rattle.snow.proofs.Written.{word_more}
use Rattle.snow.proofs.bytes.put_words.Goals as goal

pub loop-place-preserved : goal.loop-place-preserved
loop-place-preserved c =
    let at = 4 * c.loop-place.place in
    let buffer = c.loop-place.buffer in
    let w = get_or c.args.words.now c.loop-place.place 0 in
    let four : at + (at + 4 - at) ≡ at + 4 = omega arith in
    let bytes = c.copy_from_slice.ensures.after ∙ c.to_be_bytes.ensures ∙ be_bytes w in
    ap₂ (λ xs ys. take at buffer ++ (xs ++ ys)) bytes (drop-drop (at + 4 - at) at buffer ∙ ap (λ n. drop n buffer) four)
    ∙ word_more c.args.words.now c.args.buffer.now buffer c.loop-place.place (omega arith) (omega (arith, c.requires)) c.loop-place.invariant
