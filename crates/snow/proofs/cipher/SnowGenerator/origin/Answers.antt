use Rattle.std.proofs.Common.{refl, sym, inr, ◌∙◌, arith}
use Rattle.snow.specs.States.{state_of}
use Rattle.snow.proofs.CipherOrigin.{register_state_of, cipher_state, none_by_machine, none_by_register, named, named_or}
use Rattle.snow.proofs.cipher.SnowGenerator.origin.Goals as goal

pub returns-then-not-is_zero-clause-named : goal.returns-then-not-is_zero-clause-named
returns-then-not-is_zero-clause-named g c =
    let m = g.M.Machine in
    let laws = g.met.M.Machine in
    let s = c.args.self.now in
    let y = c.rewind.new.self in (
      (omega arith, omega arith),
      none_by_machine m.machine laws.sound (state_of m.words s) y.register.words (m.words y.machine) (cipher_state m.machine.size m.words laws.fits s) (register_state_of y.register) c.rewind.ensures c.if-not-is_zero.ensures,
      refl,
      refl,
    )

pub returns-in-Some-clause-named : goal.returns-in-Some-clause-named
returns-in-Some-clause-named g c =
    let m = g.M.Machine in
    let laws = g.met.M.Machine in
    let s = c.args.self.now in
    let y = c.rewind.new.self in
    named m.machine laws.sound (state_of m.words s) y.register.words (m.words y.machine) (cipher_state m.machine.size m.words laws.fits s) (register_state_of y.register) c.rewind.ensures c.if-not-is_zero.ensures 8 (inr refl) laws.sound.takes_long c.args.key.now c.args.iv.now c.name.new.key c.name.new.iv c.in-Some.lengths (omega arith) (omega arith) c.in-Some.ensures

pub returns-then-not-takes-clause-named : goal.returns-then-not-takes-clause-named
returns-then-not-takes-clause-named g c =
    let m = g.M.Machine in
    let laws = g.met.M.Machine in
    let s = c.args.self.now in
    let y = c.rewind.new.self in
    let none = c.in_default.ensures in
    let short = c.if-not-takes.ensures in (
      (omega arith, omega arith),
      none_by_register m.machine laws.sound (state_of m.words s) y.register.words (m.words y.machine) (cipher_state m.machine.size m.words laws.fits s) (register_state_of y.register) c.rewind.ensures (λ e held. cc (short ∙ e)) none.0,
      none.1,
      none.2,
    )

pub returns-clause-named : goal.returns-clause-named
returns-clause-named g c =
    let m = g.M.Machine in
    let laws = g.met.M.Machine in
    let s = c.args.self.now in
    let y = c.rewind.new.self in
    let none = c.in_default.ensures in
    named_or m.machine laws.sound (state_of m.words s) y.register.words (m.words y.machine) (cipher_state m.machine.size m.words laws.fits s) (register_state_of y.register) c.rewind.ensures c.if-not-is_zero.ensures (sym c.if-not-takes.ensures) none.0
    c.args.key.now c.args.iv.now c.name.new.key c.name.new.iv c.name-2.new.key c.name-2.new.iv c.name-2.result c.ok_or.result (omega arith) (omega arith) none.1 none.2 c.name-2.ensures c.ok_or.ensures.value
