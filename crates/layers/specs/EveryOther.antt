-- A generator that steps two words at a time, so that every other word of the one below comes out. Assumes nothing.
use Rattle.generator.specs.Meaning.{Meaning}

abbrev pub every_other : Meaning → Meaning
every_other m = record {
  size = m.size;
  load = m.load;
  next = λ s. m.next (m.next s);
  back = λ s. m.back (m.back s);
  word = m.word;
}
