use Rattle.std.proofs.Common.{[], ◌∷◌, ap, ◌∙◌, arith}
use lib.Bits.{bit_xor}
use Rattle.words.specs.Words.{byte_of}
use Rattle.words.proofs.Words.{all_from_each, byte_low}
use Rattle.session.proofs.Joins.{word_joined}
use Rattle.session.proofs.join.join_word.Goals as goal

pub returns : goal.returns
returns c =
    let v = bit_xor c.from_be_bytes-four.result c.args.word in
    record {
      bytes = all_from_each 256 _ (λ i. omega (arith, c.type_inv.bytes i));
      joined = λ m s p start e.
          word_joined m s p start c.args.at _ c.args.word c.from_be_bytes-four.result c.args.bytes.now c.copy_from_slice.new.self c.requires.0 (omega arith) c.requires.1 e c.ranges.word.fits c.from_be_bytes-four.ensures
          (c.copy_from_slice.ensures.after ∙ c.to_be_bytes.ensures ∙ ap (λ b. byte_of v 0 ∷ byte_of v 1 ∷ byte_of v 2 ∷ b ∷ []) (byte_low v));
    }
