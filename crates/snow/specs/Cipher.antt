-- A cipher of register and machine (ISO/IEC 18033-4:2005, 7.2; ETSI/SAGE SNOW 3G 256 v0.3): the sixteen words of the register, then the
-- machine's. Assumes nothing.
use Rattle.std.specs.Prelude.{ℕ, ◌+◌, cond, List, ◌++◌, length, drop, replicate, Ok, Err, Result, ◌==◌}
use Rattle.words.specs.Words.{◌⊕◌}
use Rattle.generator.specs.declared.Fault.{Fault}
use Rattle.generator.specs.declared.Fault.TheVariants.{Key, Iv}
use Rattle.generator.specs.Meaning.{Meaning, times}
use Rattle.snow.specs.Register.{at, plus, feedback, shifted, unshifted, numbered}
use Rattle.snow.specs.Loading.{expanded, with_iv}
use Rattle.snow.specs.Machines.{Machine}

-- the machine's words
abbrev pub machine : List ℕ → List ℕ
machine s = drop 16 s

-- what a machine m gives with word 15 of the register, a: a + m0, joined with m1 (FSM of ISO/IEC 18033-4:2005, 7.2.7; F of ETSI/SAGE SNOW 3G
-- 256 v0.3, 3.4.6)
abbrev pub output : List ℕ → ℕ → ℕ
output m a = plus a (at m 0) ⊕ at m 1

abbrev pub fsm : List ℕ → ℕ
fsm s = output (machine s) (at s 15)

-- a step of register and machine, both from the old state, where v is shifted in (7.2.2; 3.4.4 and 3.4.5)
abbrev pub clocked : Machine → List ℕ → ℕ → List ℕ
clocked c s v = shifted s v ++ c.next (machine s) (at s 5)

-- a step as such (7.2.2; Keystream Mode, 3.4.5), and one of a load, where FSM is joined to what is shifted in (INIT mode of 7.2.2;
-- Initialisation Mode, 3.4.4)
unfoldable pub step : Machine → List ℕ → List ℕ
step c s = clocked c s (feedback s)

unfoldable pub feed : Machine → List ℕ → List ℕ
feed c s = clocked c s (feedback s ⊕ fsm s)

-- the keystream word (Strm, 7.2.3; 4.2, step 2)
abbrev pub keystream : List ℕ → ℕ
keystream s = fsm s ⊕ at s 0

-- the machine's words before a step, and the state before one that joined v to what it shifted in; word 5 then is word 4 now
abbrev pub machine_before : Machine → List ℕ → List ℕ
machine_before c s = c.back (machine s) (at s 4)

abbrev pub unclocked : Machine → List ℕ → ℕ → List ℕ
unclocked c s v = unshifted s v ++ machine_before c s

unfoldable pub unstep : Machine → List ℕ → List ℕ
unstep c s = unclocked c s 0

unfoldable pub unfeed : Machine → List ℕ → List ℕ
unfeed c s = unclocked c s (output (machine_before c s) (at s 14))

-- key and IV in the register, and a machine of zero words; then 32 steps that join FSM, and one as such (Init, 7.2.1; 4.1 and 4.2, step 1)
abbrev pub prepared : Machine → List ℕ → List ℕ → List ℕ
prepared c key iv = with_iv (expanded (numbered key)) (numbered iv) ++ replicate c.size 0

abbrev pub started : Machine → List ℕ → List ℕ
started c s = step c (times 32 (feed c) s)

-- the state that such steps started from
abbrev pub rewound : Machine → List ℕ → List ℕ
rewound c s = times 32 (unfeed c) (unstep c s)

-- the key's length is tested first
abbrev pub cipher_load : Machine → List ℕ → List ℕ → Result (List ℕ) Fault
cipher_load c key iv = cond (c.takes (length key)) (cond (length iv == 16) (Ok (started c (prepared c key iv))) (Err (Iv 0))) (Err (Key 0))

abbrev pub cipher : Machine → Meaning
cipher c = record { size = 16 + c.size; load = cipher_load c; next = step c; back = unstep c; word = keystream }
