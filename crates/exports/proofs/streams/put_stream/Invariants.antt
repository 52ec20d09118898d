use Rattle.std.proofs.Common.{◌≡◌, ℕ, ◌<◌, length, slice_index}
use Rattle.generator.specs.Meaning.{times}
use Rattle.exports.proofs.streams.put_stream.Given as goal

abbrev pub invariant-loop-word : goal.invariant-loop-word
invariant-loop-word g l = record {
  count : length l.words ≡ length l.initial.words;
  steps : g.G.Generator.state l.generator ≡ times l.word-index g.G.Generator.meaning.next (g.G.Generator.state l.initial.generator);
  written : (k : ℕ) → k < l.word-index → slice_index l.words k ≡ g.G.Generator.meaning.word (times k g.G.Generator.meaning.next (g.G.Generator.state l.initial.generator));
}
