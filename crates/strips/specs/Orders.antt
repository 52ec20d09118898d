-- What an order of a strip asks of a session. Assumes nothing.
use Rattle.std.specs.Prelude.{ℕ, List}
use Rattle.strips.specs.declared.orders.Order.{Order}
use Rattle.strips.specs.declared.orders.Order.TheVariants.{End, Open, Apply, Skip, StepBack, Position, Origin, Close}

-- a call of a session by its bytes and numbers, and the end of a strip
pub data Asked : Type 0 where
  ending : Asked
  opening : (key iv : List ℕ) (limit : ℕ) → Asked
  applying : (bytes : List ℕ) → Asked
  skipping : (n : ℕ) → Asked
  going_back : (n : ℕ) → Asked
  placing : Asked
  naming : Asked
  closing : Asked

-- the code's order, with the bytes that it borrows
abbrev pub asked : Order → Asked
asked End = ending
asked (Open key iv limit) = opening key.now iv.now limit
asked (Apply bytes) = applying bytes.now
asked (Skip n) = skipping n
asked (StepBack n) = going_back n
asked Position = placing
asked Origin = naming
asked Close = closing

-- the kind of an order's word
abbrev pub kind : Asked → ℕ
kind ending = 0
kind (opening key iv limit) = 1
kind (applying bytes) = 2
kind (skipping n) = 3
kind (going_back n) = 4
kind placing = 5
kind naming = 6
kind closing = 7
