-- A code of any of the three kinds keeps the laws of a code.
use Rattle.std.proofs.Common.{lit≤}
use Rattle.code.specs.Word.{Limits}
use Rattle.bytewise.specs.Words.{Works}
use Rattle.recipes.specs.Recipes.{copy_recipe, sum_recipe, cauchy_recipe}
use Rattle.recipes.proofs.Recipes.{copy_works, sum_works, cauchy_works, limited}
use Rattle.codes.specs.Kinds.{any_recipe, any_coding}
use Rattle.codes.specs.declared.any.AnyCode.{AnyCode}
use Rattle.codes.specs.declared.any.AnyCode.TheVariants.{Copies, XorSum, Cauchy}

pub any_limits : (c : AnyCode) → Limits (any_coding c)
any_limits (Copies c) = limited (copy_recipe c.m) (lit≤ tt, lit≤ tt) c.limits
any_limits (XorSum c) = limited (sum_recipe c.k) c.limits (lit≤ tt, lit≤ tt)
any_limits (Cauchy c) = limited (cauchy_recipe c.k c.m) c.few c.fewer

pub any_works : (c : AnyCode) → Works (any_recipe c)
any_works (Copies c) = copy_works c.m
any_works (XorSum c) = sum_works c.k
any_works (Cauchy c) = cauchy_works c.k c.m c.few.1 c.fewer.1
