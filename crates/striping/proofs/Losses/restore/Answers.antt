use Rattle.std.proofs.Common.{length, ◌∙◌, arith}
use Rattle.refusal.proofs.Turning.{turned}
use Rattle.code.proofs.Parts.{block_here, block_other}
use Rattle.code.proofs.Refusals.{accepted}
use Rattle.striping.proofs.Losses.restore.Goals as goal

pub returns : goal.returns
returns g c =
    let self = c.args.self.now in
    let stripe = c.args.stripe.now in
    let block = c.copy_from_slice.new.self in
    record {
      here = block_here c.args.i _ stripe block (omega arith) (omega arith) ∙ c.copy_from_slice.ensures.after
          ∙ turned _ _ _ _ _ c.rebuild.ensures
          (accepted (g.C.Code.coding self.code.now) c.args.i self.marks.now (length stripe) 64
          self.long (omega (arith, self.long)) (omega arith) self.enough (omega (arith, self.long)));
      others = block_other c.args.i _ stripe block (omega arith) (omega arith) (omega arith);
    }
