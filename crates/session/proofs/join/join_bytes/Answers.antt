use Rattle.std.proofs.Common.{◌≡◌, sym, ap, ◌∙◌, ap₂, arith}
use Rattle.words.specs.Words.{byte_of}
use Rattle.session.specs.View.{placed, stream_byte}
use Rattle.session.proofs.Joins.{ahead_word, ahead_same, joins_more, leaves_more}
use Rattle.session.proofs.join.join_bytes.Goals as goal
use Rattle.session.proofs.join.join_bytes.Goals.{then-place-eq4, else-place-eq4}

pub loop-byte-preserved : goal.loop-byte-preserved
loop-byte-preserved g c =
    let m = g.G.Generator.meaning in
    let s = g.G.Generator.state c.word-word.new.self in
    let from = c.args.from in
    let i = c.loop-byte.byte-index in
    let inv = c.loop-byte.invariant in
    let byte : c.byte_at.result ≡ stream_byte m (placed s from) i = c.byte_at.ensures ∙ ap₂ byte_of (inv.2 ∙ ap m.word inv.1) (omega arith) in
    let done = joins_more m s from i c.args.bytes.now c.loop-byte.bytes c.byte_at.result (omega arith) byte inv.3 inv.4 in
    let left = leaves_more i c.args.bytes.now c.loop-byte.bytes _ inv.4 in
    let state = g.G.Generator.state in
    elim c.if-place-eq4.branch [
      | then-place-eq4 w ↦
          let at : state c.if-place-eq4.generator ≡ state w.forward.new.self = ap state w.generator-is ∙ w.word-word-then-place-eq4.ensures.same in
          (w.place-is ∙ omega arith, at ∙ w.forward.ensures ∙ ap m.next inv.1 ∙ sym (ahead_word m s from i (omega arith)), w.word-is ∙ w.word-word-then-place-eq4.ensures.value ∙ ap m.word (sym at), done, left)
      | else-place-eq4 w ↦
          let at : state c.if-place-eq4.generator ≡ state c.loop-byte.generator = ap state w.generator-is in
          (w.place-is ∙ omega arith, at ∙ inv.1 ∙ sym (ahead_same m s from i (λ e. w.if-place-eq4.false (omega arith))), w.word-is ∙ inv.2 ∙ ap m.word (sym at), done, left)
    ]
