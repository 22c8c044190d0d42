-- Parts of an image after a write of some bytes in a row. Assumes nothing.
use Rattle.std.proofs.Common.{◌≡◌, ℕ, ◌+◌, ◌-◌, ◌<◌, ◌≤◌, ◌⊎◌, List, length, get_or, take, drop, replicate, sym, ◌∙◌, subst, ⊎_elim, arith, length-drop}
use Rattle.std.proofs.lemmas.List.{get_or-take, get_or-drop, get_or_default, get_or-replicate, length-replicate, same_lists, length-take-le}
use Rattle.std.proofs.lemmas.Bool.Decides.{nat_tests}
use Rattle.image_format.specs.Image.{Over, Wiped}

length_part : (xs : List ℕ) (b m : ℕ) → b + m ≤ length xs → length (take m (drop b xs)) ≡ m
length_part xs b m l = length-take-le m (drop b xs) (rw length-drop (omega arith))

pub get_or_part : (xs : List ℕ) (b m k d : ℕ) → b + m ≤ length xs → k < m → get_or (take m (drop b xs)) k d ≡ get_or xs (b + k) 0
get_or_part xs b m k d l k< = get_or-take m (drop b xs) k d k< ∙ get_or-drop b xs k d ∙ get_or_default xs (b + k) d 0 (omega arith)

-- a part is known by its bytes
part_is : (ys new : List ℕ) (b m : ℕ) → b + m ≤ length ys → length new ≡ m → ((k : ℕ) → k < m → get_or ys (b + k) 0 ≡ get_or new k 0) → take m (drop b ys) ≡ new
part_is ys new b m l n f = same_lists (take m (drop b ys)) new (length_part ys b m l ∙ sym n) (λ k d k<. byte k d (subst (λ (j : ℕ). k < j) (length_part ys b m l) k<)) where
  byte : (k d : ℕ) → k < m → get_or (take m (drop b ys)) k d ≡ get_or new k d
  byte k d k< = get_or_part ys b m k d l k< ∙ f k k< ∙ get_or_default new k 0 d (omega arith)

module _ (xs ys : List ℕ) (same : length ys ≡ length xs) where
  part_same : (b m : ℕ) → b + m ≤ length xs → ((k : ℕ) → k < m → get_or ys (b + k) 0 ≡ get_or xs (b + k) 0) → take m (drop b ys) ≡ take m (drop b xs)
  part_same b m l f = part_is ys (take m (drop b xs)) b m (omega arith) (length_part xs b m l) (λ k k<. f k k< ∙ sym (get_or_part xs b m k 0 l k<))

  module _ (new : List ℕ) (a w : ℕ) (n : length new ≡ w) (l : a + w ≤ length xs) (o : Over xs ys a new) where
    fits : a + length new ≤ length xs
    fits = omega arith

    -- the new bytes are there
    pub over_there : take w (drop a ys) ≡ new
    over_there = part_is ys new a w (omega arith) n (λ k k<. let q : a + k - a ≡ k = omega arith in let e = o fits (a + k) in grind (arith, nat_tests))

    -- and all else is as it was
    pub over_elsewhere : (b m : ℕ) → b + m ≤ length xs → (b + m ≤ a) ⊎ (a + w ≤ b) → take m (drop b ys) ≡ take m (drop b xs)
    over_elsewhere b m lm apart = part_same b m lm (λ k k<. let e = o fits (b + k) in ⊎_elim (λ (q : b + m ≤ a). grind (arith, nat_tests)) (λ (q : a + w ≤ b). grind (arith, nat_tests)) apart)

  module _ (a b : ℕ) (o : Wiped xs ys a b) where
    -- zeros are there
    pub wiped_there : (c m : ℕ) → c + m ≤ length xs → a ≤ c → c + m ≤ b → take m (drop c ys) ≡ replicate m 0
    wiped_there c m l i j = part_is ys (replicate m 0) c m (omega arith) (length-replicate m 0) (λ k k<. let e = o (c + k) in let z : get_or ys (c + k) 0 ≡ 0 = grind (arith, nat_tests) in z ∙ sym (get_or-replicate m k 0 0 k<))

    -- and all else is as it was
    pub wiped_elsewhere : (c m : ℕ) → c + m ≤ length xs → (c + m ≤ a) ⊎ (b ≤ c) → take m (drop c ys) ≡ take m (drop c xs)
    wiped_elsewhere c m l apart = part_same c m l (λ k k<. let e = o (c + k) in ⊎_elim (λ (q : c + m ≤ a). grind (arith, nat_tests)) (λ (q : b ≤ c). grind (arith, nat_tests)) apart)

-- a write, by other names for its place and its bytes
pub over_as : (xs ys bytes new : List ℕ) (a b : ℕ) → a ≡ b → bytes ≡ new → Over xs ys a bytes → Over xs ys b new
over_as xs ys bytes new a b i j o = rw (← i, ← j) o
