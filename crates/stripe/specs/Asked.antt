-- The code that a command asks for.
use Rattle.bytewise.specs.Words.{Recipe}
use Rattle.recipes.specs.Recipes.{copy_recipe, sum_recipe, cauchy_recipe}
use Rattle.stripe.specs.declared.command.Kind.{Kind}
use Rattle.stripe.specs.declared.command.Kind.TheVariants.{Copy, Sum, Rs}

-- its recipe
abbrev pub recipe_of : Kind → Recipe
recipe_of (Copy m) = copy_recipe m
recipe_of (Sum k) = sum_recipe k
recipe_of (Rs k m) = cauchy_recipe k m
