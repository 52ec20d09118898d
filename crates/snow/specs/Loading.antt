-- What the ciphers load before their first steps. Assumes nothing.
use Rattle.std.specs.Prelude.{ℕ, ◌/◌, ◌%◌, cond, List, ◌++◌, map, length, slice_set, ◌==◌}
use Rattle.words.specs.Words.{◌⊕◌}
use Rattle.snow.specs.Register.{at}

-- every bit of a word inverted: the bold 1 of the standards is all ones
abbrev pub inverted : ℕ → ℕ
inverted w = w ⊕ 0xFFFFFFFF

-- a 128-bit key k0 to k3: words 15 to 12 and 7 to 4 are k3 to k0, words 11 to 8 and 3 to 0 their inverses
-- (ISO/IEC 18033-4:2005, 7.2.1, step 1a)
abbrev pub expanded_128 : List ℕ → List ℕ
expanded_128 k = map inverted k ++ (k ++ (map inverted k ++ k))

-- a 256-bit key k0 to k7: words 15 to 8 are k7 to k0, words 7 to 0 their inverses
-- (ISO/IEC 18033-4:2005, 7.2.1, step 1b; ETSI/SAGE SNOW 3G 256 v0.3, 4.1)
abbrev pub expanded_256 : List ℕ → List ℕ
expanded_256 k = map inverted k ++ k

-- a key of four words or of eight
unfoldable pub expanded : List ℕ → List ℕ
expanded k = cond (length k == 4) (expanded_128 k) (expanded_256 k)

-- word i of an expanded key of n words, four or eight: the words' inverses and the words, in turn (`expanded_by_words` of LoadLaws)
abbrev pub expanded_word : ℕ → List ℕ → ℕ → ℕ
expanded_word n k i = cond (i / n % 2 == 0) (inverted (at k (i % n))) (at k (i % n))

-- IV0 is joined to word 15, IV1 to 12, IV2 to 10 and IV3 to 9 (ISO/IEC 18033-4:2005, 7.2.1, step 2; ETSI/SAGE SNOW 3G 256 v0.3, 4.1)
abbrev pub with_iv : List ℕ → List ℕ → List ℕ
with_iv a iv = slice_set (slice_set (slice_set (slice_set a 15 (at a 15 ⊕ at iv 0)) 12 (at a 12 ⊕ at iv 1)) 10 (at a 10 ⊕ at iv 2)) 9 (at a 9 ⊕ at iv 3)
