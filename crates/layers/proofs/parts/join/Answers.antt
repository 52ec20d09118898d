use Rattle.std.proofs.Common.{length, arith, length-append}
use Rattle.layers.proofs.Written.{written}
use Rattle.layers.proofs.parts.join.Goals as goal

pub returns : goal.returns
returns c =
    let first = c.args.first.now in
    let second = c.args.second.now in
    let buffer = c.args.buffer.now in
    record {
      written = rw (c.copy_from_slice.ensures.after, c.copy_from_slice-2.ensures.after) (written (length first) _ _ _ buffer first second (omega arith) (omega arith) (omega arith) (omega arith));
      count = simp length-append (omega arith);
    }
