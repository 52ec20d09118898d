use Rattle.std.proofs.Common.{◌≡◌, ◌*◌, ◌++◌, take, drop}
use Rattle.words.specs.Words.{words_bytes}
use Rattle.snow.proofs.bytes.put_words.Given as goal

abbrev pub invariant-loop-place : goal.invariant-loop-place
invariant-loop-place l = l.buffer ≡ words_bytes (take l.place l.words) ++ drop (4 * l.place) l.initial.buffer
