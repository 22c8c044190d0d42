-- What an image holds after a head is written, a block is put, or records are wiped. Assumes nothing.
use Rattle.std.proofs.Common.{◌≡◌, ℕ, ◌+◌, ◌-◌, ◌*◌, ◌<◌, ◌≤◌, Bool, true, false, cond, ◌&&◌, eqb, ltb, leb, ◌⊎◌, List, length, take, drop, replicate, Some, None, refl, ◌∙◌, inl, inr, ⊎_elim, arith}
use Rattle.std.proofs.lemmas.List.{length-replicate, take-replicate, drop-replicate}
use Rattle.std.proofs.lemmas.Bool.{cases_order, and_parts, and_cases, leb-true, leb-false, ltb-true, ltb-false}
use Rattle.store.specs.declared.kinds.Shape.{Shape}
use Rattle.store.specs.declared.kinds.State.{State}
use Rattle.store.specs.declared.kinds.State.TheVariants.{Empty, Open, Sealed}
use Rattle.block.specs.Block.{Block}
use Rattle.grid.specs.Index.{total}
use Rattle.grid.specs.Row.{Row}
use Rattle.grid.proofs.Grid.{by_eqb}
use Rattle.image_format.specs.Image.{Over, Wiped, start, size, record_at, record_of, head_at, head_of, Holds}
use Rattle.image_format.proofs.Image.{over_there, over_elsewhere, wiped_there, wiped_elsewhere}

head_size : (z : State) → length (head_of z) ≡ 8
head_size Empty = refl
head_size Open = refl
head_size Sealed = refl

zeros_there : (n a m : ℕ) → a + m ≤ n → ◌≡◌ {A = List ℕ} (take m (drop a (replicate n 0))) (replicate m 0)
zeros_there n a m l = rw drop-replicate (take-replicate m (n - a) 0 (omega arith))

order : (i j : ℕ) → (i ≡ j → ⊥) → (i < j) ⊎ (j < i)
order i j e = ⊎_elim (λ q. absurd (e q)) (λ q. q) (cases_order i j)

-- by cases on whether a number lies in a range
by_range : (a b i : ℕ) (P : Bool → Type 0) → (a ≤ i → i < b → P true) → ((i < a) ⊎ (b ≤ i) → P false) → P (leb a i && ltb i b)
by_range a b i P yes' no' = go (leb a i && ltb i b) refl where
  go : (c : Bool) → (leb a i && ltb i b) ≡ c → P c
  go true e = let q = and_parts (leb a i) (ltb i b) e in yes' (leb-true a i q.0) (ltb-true i b q.1)
  go false e = no' (⊎_elim (λ q. inl (leb-false a i q)) (λ q. inr (ltb-false i b q)) (and_cases (leb a i) (ltb i b) e))

module _ (h : Shape) (xs ys : List ℕ) (marks : ℕ → State) (row : Row) (k : Holds h xs marks row) (same : length ys ≡ length xs) where
  head_fits : (t : ℕ) → t < h.slots → 8 * t + 8 ≤ length xs
  head_fits t t< = omega (arith, k.length)

  record_fits : (i : ℕ) → i < total h → start h i + 72 ≤ length xs
  record_fits i i< = omega (arith, k.length)

  -- a head
  pub head_held : (s : ℕ) → s < h.slots → (z : State) → Over xs ys (8 * s) (head_of z) → Holds h ys (λ t. cond (eqb t s) z (marks t)) row
  head_held s s< z o = record {
    length = same ∙ k.length;
    heads = λ t t<. by_eqb t s (λ b. head_at ys t ≡ head_of (cond b z (marks t)))
        (λ e. rw e (over_there xs ys same (head_of z) (8 * s) 8 (head_size z) (head_fits s s<) o))
        (λ e. over_elsewhere xs ys same (head_of z) (8 * s) 8 (head_size z) (head_fits s s<) o (8 * t) 8 (head_fits t t<) (⊎_elim (λ q. inl (omega arith)) (λ q. inr (omega arith)) (order t s e)) ∙ k.heads t t<);
    records = λ i i<. over_elsewhere xs ys same (head_of z) (8 * s) 8 (head_size z) (head_fits s s<) o (start h i) 72 (record_fits i i<) (inr (omega arith)) ∙ k.records i i<;
    past = λ t l. by_eqb t s (λ b. cond b z (marks t) ≡ Empty) (λ e. absurd (omega arith)) (λ _. k.past t l);
  }

  -- a block put at record j
  pub put_held : (j : ℕ) → j < total h → (v : Block) → length v ≡ 64 → Over xs ys (start h j) (record_of h j (Some v)) → Holds h ys marks (λ i. cond (eqb i j) (Some v) (row i))
  put_held j j< v l o = record {
    length = same ∙ k.length;
    heads = λ t t<. over_elsewhere xs ys same (record_of h j (Some v)) (start h j) 72 (omega arith) (record_fits j j<) o (8 * t) 8 (head_fits t t<) (inl (omega arith)) ∙ k.heads t t<;
    records = λ i i<. by_eqb i j (λ b. record_at h ys i ≡ record_of h i (cond b (Some v) (row i)))
        (λ e. rw e (over_there xs ys same (record_of h j (Some v)) (start h j) 72 (omega arith) (record_fits j j<) o))
        (λ e. over_elsewhere xs ys same (record_of h j (Some v)) (start h j) 72 (omega arith) (record_fits j j<) o (start h i) 72 (record_fits i i<) (⊎_elim (λ q. inl (omega arith)) (λ q. inr (omega arith)) (order i j e)) ∙ k.records i i<);
    past = k.past;
  }

  -- the records from a to before b wiped
  pub wipe_held : (a b : ℕ) → Wiped xs ys (start h a) (start h b) → Holds h ys marks (λ i. cond (leb a i && ltb i b) None (row i))
  wipe_held a b o = record {
    length = same ∙ k.length;
    heads = λ t t<. wiped_elsewhere xs ys same (start h a) (start h b) o (8 * t) 8 (head_fits t t<) (inl (omega arith)) ∙ k.heads t t<;
    records = λ i i<. by_range a b i (λ c. record_at h ys i ≡ record_of h i (cond c None (row i)))
        (λ l r. wiped_there xs ys same (start h a) (start h b) o (start h i) 72 (record_fits i i<) (omega arith) (omega arith))
        (λ apart. wiped_elsewhere xs ys same (start h a) (start h b) o (start h i) 72 (record_fits i i<) (⊎_elim (λ q. inl (omega arith)) (λ q. inr (omega arith)) apart) ∙ k.records i i<);
    past = k.past;
  }

-- nothing but zeros
pub zeros_held : (h : Shape) → Holds h (replicate (size h) 0) (λ t. Empty) (λ i. None)
zeros_held h = record {
  length = length-replicate (size h) 0;
  heads = λ t t<. zeros_there (size h) (8 * t) 8 (omega arith);
  records = λ i i<. zeros_there (size h) (start h i) 72 (omega arith);
  past = λ t _. refl;
}
