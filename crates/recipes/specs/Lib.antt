pub mod Recipes
