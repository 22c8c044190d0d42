use Rattle.std.proofs.Common.{◌≡◌, ℕ, ◌<◌, length, get_or, refl, arith}
use Rattle.std.proofs.lemmas.List.{places}
use Rattle.std.proofs.lemmas.Bool.Decides.{nat_tests}
use Rattle.image_format.proofs.wipe_bytes.Goals as goal

pub returns-then-from-end : goal.returns-then-from-end
returns-then-from-end c k =
    let zeros : (j : ℕ) → j < length c.fill.new.self → get_or c.fill.new.self j 0 ≡ 0 = λ j q. c.fill.ensures.clones j 0 (omega arith) refl in
    grind (arith, places, nat_tests)
