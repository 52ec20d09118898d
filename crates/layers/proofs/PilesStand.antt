-- Every pile of layers over lawful generators is a lawful generator. Assumes nothing.
use Rattle.generator.specs.Meaning.{Lawful}
use Rattle.layers.specs.Piles.{Pile, generator, pair_of, every_other_of, meaning_of, LawfulBelow, PilesStand}
use Rattle.layers.specs.PairParts.{together}
use Rattle.layers.specs.PairLaws.{pair_lawful, pair_words}
use Rattle.layers.specs.EveryOtherLaws.{every_other_lawful, every_other_words}

piles_lawful : (p : Pile) → LawfulBelow p → Lawful (meaning_of p)
piles_lawful (generator m) l = l
piles_lawful (pair_of p q) l = pair_lawful (meaning_of p) (meaning_of q) (piles_lawful p l.0) (piles_lawful q l.1)
piles_lawful (every_other_of p) l = every_other_lawful (meaning_of p) (piles_lawful p l)

pub piles : PilesStand
piles = record {
  lawful = piles_lawful;
  pair_stream = λ {a} la st b t n. pair_words a b la st t n;
  pair_load = λ {a} {b} short short' r r'. together a b short short' r r';
  every_other_stream = every_other_words;
}
