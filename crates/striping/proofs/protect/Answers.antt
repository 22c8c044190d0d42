use Rattle.std.proofs.Common.{◌≡◌, rules, arith}
use Rattle.code.specs.Calls.{first}
use Rattle.striping.proofs.Blocks.{front_block, same_first, stored_as}
use Rattle.striping.proofs.protect.Goals as goal

pub returns : goal.returns
returns g c =
    let k = (g.C.Code.coding c.args.code.now).k in
    let given = c.args.given.now in
    let loaded = c.load.new.out in
    let same : first k loaded ≡ first k given =
    same_first k loaded given (λ i l. front_block loaded given i k l (omega arith) (omega arith) (λ j h. c.load.ensures j (omega arith))) in
    search (rules, stored_as, same)
