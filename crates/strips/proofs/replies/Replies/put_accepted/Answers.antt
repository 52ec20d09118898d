use Rattle.std.proofs.Common.{rules, ◌≡◌, ◌+◌, ◌-◌, ◌*◌, ◌%◌, ◌++◌, length, take, drop, replicate, refl, ap, ◌∙◌, ap₂, arith}
use Rattle.std.proofs.lemmas.List.{places, length-append, length-drop, length-replicate, length-take-le}
use Rattle.words.specs.Words.{bytes_of}
use Rattle.strips.specs.Reading.{words_for}
use Rattle.strips.specs.Replies.{put_at, accepted_reply}
use Rattle.strips.proofs.Puts.{put_put, put_part}
use Rattle.strips.proofs.replies.Replies.put_accepted.Goals as goal

pub returns : goal.returns
unfolding accepted_reply
returns c =
    let at = c.args.self.now.written in
    let bytes = c.args.bytes.now in
    let before = c.args.self.now.buffer.now in
    let count = length bytes in
    let s = at + 4 + count in
    let words = c.words_for.ensures in
    let pad = at + 4 + 4 * c.words_for.result - s in
    let written = c.put.new.buffer in
    let head = bytes_of (c.args.kind * 268435456 + count) in
    let same_size : (length written ≡ length before) = c.put.auto.buffer ∙ c.put_word.auto.buffer in
    let long : length (take pad (drop s written)) ≡ pad = length-take-le pad (drop s written) (simp length-drop (omega arith)) in
    let gap : pad ≡ 4 * words_for count - count = omega arith in
    let zeros : c.fill.new.self ≡ replicate (4 * words_for count - count) 0 = c.fill.ensures.after (λ y e. e) ∙ ap (λ n. replicate n 0) (long ∙ gap) in
    let word : c.args.kind * 268435456 % 4294967296 + count ≡ c.args.kind * 268435456 + count = omega arith in
    let first : c.put_word.new.buffer ≡ put_at at head before = c.put_word.ensures ∙ ap (λ w. put_at at (bytes_of w) before) word in
    let both : written ≡ put_at at (head ++ bytes) before = c.put.ensures ∙ ap (put_at (at + 4) bytes) first ∙ put_put at (at + 4) head bytes before (omega arith) refl in
    let total : count + (4 * words_for count - count) ≡ 4 * words_for count = omega arith in
    record {
      same_buffer = (refl, search (rules, places));
      buffer = put_part s pad c.fill.new.self written (c.fill.auto.self ∙ long) ∙ ap₂ (put_at s) zeros both ∙ put_put at s (head ++ bytes) (replicate (4 * words_for count - count) 0) before (omega arith) (omega arith);
      written = simp (length-append, length-replicate) (omega arith);
    }
