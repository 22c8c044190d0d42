-- A code of any of the three kinds means what the code in it means.
use Rattle.code.specs.Word.{Coding}
use Rattle.bytewise.specs.Words.{Recipe, coded}
use Rattle.recipes.specs.Recipes.{copy_recipe, sum_recipe, cauchy_recipe}
use Rattle.codes.specs.declared.any.AnyCode.{AnyCode}
use Rattle.codes.specs.declared.any.AnyCode.TheVariants.{Copies, XorSum, Cauchy}

abbrev pub any_recipe : AnyCode → Recipe
any_recipe (Copies c) = copy_recipe c.m
any_recipe (XorSum c) = sum_recipe c.k
any_recipe (Cauchy c) = cauchy_recipe c.k c.m

abbrev pub any_coding : AnyCode → Coding
any_coding c = coded (any_recipe c)
