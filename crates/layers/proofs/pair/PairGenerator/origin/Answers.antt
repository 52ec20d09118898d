use Rattle.std.proofs.Common.{◌+◌, ◌<◌, ◌⊎◌, length, inl, inr, arith}
use Rattle.generator.proofs.Handed.{handed_on}
use Rattle.layers.proofs.PairCalls.{reaches_by, first_none, second_none, too_long, both_named}
use Rattle.layers.proofs.pair.PairGenerator.origin.Goals as goal
use Rattle.layers.proofs.pair.PairGenerator.origin.Goals.{then-first_key-second_key-gt254-via-then-first_key-second_key-gt254, then-first_key-second_key-gt254-via-else-first_key-second_key-gt254+then-first_iv-second_iv-gt254}

pub returns-in_err-first : goal.returns-in_err-first
returns-in_err-first g c =
    let r = c.from_residual.result in
    let f = c.in_err-first.field-0.0 in
    record {
      named =
          first_none g.A.Generator.meaning g.B.Generator.meaning g.met.A.Generator.lawful (g.met.A.Generator.valid c.args.self.now.first) (g.B.Generator.state c.args.self.now.second) c.args.key.now c.args.iv.now (omega arith, omega arith)
          r f (handed_on r f c.from_residual.ensures.1) c.in_err-first.ensures.named;
      same = rw c.origin_of.ensures.same;
    }

pub returns-in_err-second : goal.returns-in_err-second
returns-in_err-second g c =
    let r = c.from_residual-in_err-second.result in
    let f = c.in_err-second.field-0.0 in
    record {
      named =
          second_none g.A.Generator.meaning g.B.Generator.meaning g.met.A.Generator.lawful (g.met.A.Generator.valid c.args.self.now.first) (g.B.Generator.state c.args.self.now.second) c.args.key.now c.args.iv.now (omega arith, omega arith)
          r f (handed_on r f c.from_residual-in_err-second.ensures.1) c.in_err-second.ensures.named;
      same = rw (c.origin_of.ensures.same, c.origin_of-2.ensures.same);
    }

pub returns-then-first_key-second_key-gt254 : goal.returns-then-first_key-second_key-gt254
returns-then-first_key-second_key-gt254 g c =
    let first = reaches_by c.as_slice-first_key.ensures c.as_slice-first_iv.ensures c.in_ok-first.ensures.named in
    let second = reaches_by c.as_slice-second_key.ensures c.as_slice-second_iv.ensures c.in_ok-second.ensures.named in
    let long : (254 < length c.as_slice-first_key.result.now + length c.as_slice-second_key.result.now) ⊎ (254 < length c.as_slice-first_iv.result.now + length c.as_slice-second_iv.result.now) =
    elim c.then-first_key-second_key-gt254.branch [
      | then-first_key-second_key-gt254-via-then-first_key-second_key-gt254 w ↦ inl w.if-first_key-second_key-gt254.true
      | then-first_key-second_key-gt254-via-else-first_key-second_key-gt254+then-first_iv-second_iv-gt254 w ↦ inr w.if-first_iv-second_iv-gt254.true
    ] in
    record {
      named =
          too_long g.A.Generator.meaning g.B.Generator.meaning g.met.A.Generator.lawful (g.met.A.Generator.valid c.args.self.now.first) (g.B.Generator.state c.args.self.now.second) c.args.key.now c.args.iv.now (omega arith, omega arith)
          g.met.B.Generator.lawful first second long;
      same = rw (c.origin_of.ensures.same, c.origin_of-2.ensures.same);
    }

pub returns : goal.returns
returns g c =
    let first = reaches_by c.as_slice-first_key.ensures c.as_slice-first_iv.ensures c.in_ok-first.ensures.named in
    let second = reaches_by c.as_slice-second_key.ensures c.as_slice-second_iv.ensures c.in_ok-second.ensures.named in
    record {
      named =
          both_named g.A.Generator.meaning g.B.Generator.meaning g.met.A.Generator.lawful (g.met.A.Generator.valid c.args.self.now.first) (g.B.Generator.state c.args.self.now.second) c.args.key.now c.args.iv.now (omega arith, omega arith)
          g.met.B.Generator.lawful first second (omega arith) (omega arith) _ _ _ _
          c.join-key_len.ensures.count c.join-iv_len.ensures.count c.join-key_len.ensures.written c.join-iv_len.ensures.written;
      same = rw (c.origin_of.ensures.same, c.origin_of-2.ensures.same);
    }
