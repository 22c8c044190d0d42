-- What one turn of a loop over blocks or flags does. Assumes nothing.
use Rattle.std.proofs.Common.{◌≡◌, ℕ, zero, suc, ◌+◌, ◌*◌, ◌<◌, ◌≤◌, ◌++◌, ◌∷◌, [], ◌&&◌, Bool, true, false, not, cond, eqb, ltb, List, length, get_or, drop, set, sym, ap, ◌∙◌, subst, ⊎_elim, arith, length-drop, length-append, Some, None, Bor, ap₂, below_more, replicate}
use lib.Bits.{bit_xor}
use denote.Param.Members.{Mut}
use Rattle.std.specs.declared.iter.Enumerate.{Enumerate}
use Rattle.std.specs.declared.iter.Filter.{Filter}
use Rattle.std.specs.declared.iter.Take.{Take}
use Rattle.std.specs.declared.slice.ChunksExact.{ChunksExact}
use Rattle.std.specs.declared.slice.Iter.{Iter}
use Rattle.std.specs.Fn.{CalledAt}
use Rattle.std.specs.Iterator.{Yields}
use Rattle.std.specs.Iterator.Adapters.{enumerate_source, enumerate_count, enumerate_steps, filter_source, filter_steps, take_source, take_count, take_steps}
use Rattle.std.specs.List.{FoldsTo}
use Rattle.std.specs.Slice.Iter.{chunks_exact_rest, chunks_exact_size, chunks_exact_steps, iter_rest, iter_steps}
use Rattle.std.proofs.Math.Bool.{and-false}
use Rattle.std.proofs.lemmas.Bool.{cases_eq, cases_lt, lt-ltb, le-ltb}
use Rattle.std.proofs.lemmas.List.{get_or-drop, get_or_append_left, get_or_past, drop-drop, drop_at, get_or-set_same, get_or-set_other, get_or-replicate}
use Rattle.block.specs.Count.{count}
use Rattle.block.proofs.Counts.{count_more, count_skip}
use Rattle.code.specs.Calls.{marks_held}
use Rattle.code.proofs.Lowest.{among_lowest}
use Rattle.field.specs.Sums.{summed}
use Rattle.recovery.proofs.Sums.{summed_more, summed_skip}

-- what a loop over the whole blocks of a buffer, by their numbers, has left
pub record BlocksLeft (bytes : List ℕ) (s : Enumerate (ChunksExact ℕ)) : Type 0 where
  pub size : chunks_exact_size (enumerate_source s) ≡ 64
  pub rest : chunks_exact_rest (enumerate_source s) ≡ drop (enumerate_count s * 64) bytes
  pub within : enumerate_count s * 64 ≤ length bytes

-- and what one turn gives it: the block of that number
pub record BlockTurn (bytes : List ℕ) (s : Enumerate (ChunksExact ℕ)) (i : ℕ) (block : List ℕ) (t : Enumerate (ChunksExact ℕ)) : Type 0 where
  pub number : i ≡ enumerate_count s
  pub next : enumerate_count t ≡ i + 1
  pub below : i * 64 + 64 ≤ length bytes
  pub long : length block ≡ 64
  pub byte : (j : ℕ) → j < 64 → get_or block j 0 ≡ get_or bytes (i * 64 + j) 0
  pub left : BlocksLeft bytes t

module _ (bytes : List ℕ) (s t : Enumerate (ChunksExact ℕ)) (had : BlocksLeft bytes s) where
  pub block_turn : (i : ℕ) (block : Bor (List ℕ)) → enumerate_steps chunks_exact_steps s (Some (i, block)) t → BlockTurn bytes s i block.now t
  block_turn i block h =
      let from : ℕ = enumerate_count s * 64 in
      let here = h.1 in
      let cut : drop from bytes ≡ block.now ++ chunks_exact_rest (enumerate_source t) = sym had.rest ∙ h.0.1.0 in
      let long : length block.now ≡ 64 = h.0.1.1 ∙ had.size in
      let room : from + 64 ≤ length bytes = omega (arith, ap length cut, length-drop from bytes, length-append block.now (chunks_exact_rest (enumerate_source t)), had.within) in
      let onward : enumerate_count t * 64 ≡ from + 64 = omega (arith, h.2) in
      record {
        number = here;
        next = omega (arith, h.2, here);
        below = omega (arith, room, here);
        long = long;
        byte = λ j l.
            sym (get_or_append_left block.now _ 0 j (omega (arith, long))) ∙ ap (λ xs. get_or xs j 0) (sym cut) ∙ get_or-drop from bytes j 0
            ∙ ap (λ n. get_or bytes (n * 64 + j) 0) (sym here);
        left = record {
          size = h.0.0 ∙ had.size;
          rest = sym (drop_at block.now _ 64 long) ∙ ap (drop 64) (sym cut) ∙ drop-drop 64 from bytes ∙ ap (λ n. drop n bytes) (sym onward);
          within = omega (arith, room, onward);
        };
      }

  -- at the end every whole block came
  pub blocks_end : (n : ℕ) → length bytes ≡ n * 64 → enumerate_steps chunks_exact_steps s None t → enumerate_count s ≡ n
  blocks_end n long h = omega (arith, long, had.within, had.size, h.0.1.0, ap length had.rest, length-drop (enumerate_count s * 64) bytes)

-- flags that agree with a test below a number, with none from there on
pub record Flags (test : ℕ → Bool) (flags : List Bool) (i : ℕ) : Type 0 where
  pub below : (x : ℕ) → x < i → get_or flags x false ≡ test x
  pub rest : (x : ℕ) → i ≤ x → get_or flags x false ≡ false

module _ (test : ℕ → Bool) (flags : List Bool) (i : ℕ) (had : Flags test flags i) where
  pub flag_set : (b : Bool) → i < length flags → b ≡ test i → Flags test (set flags i b) (i + 1)
  flag_set b l here = record {
    below = below_more _ _ (λ x h. get_or-set_other flags i x b false (omega arith) ∙ had.below x h) (get_or-set_same flags i b false l ∙ here);
    rest = λ x h. get_or-set_other flags i x b false (omega arith) ∙ had.rest x (omega arith);
  }

  pub flag_skip : test i ≡ false → Flags test flags (i + 1)
  flag_skip none = record {
    below = below_more _ _ had.below (had.rest i (omega arith) ∙ sym none);
    rest = λ x h. had.rest x (omega arith);
  }

-- the item of a number, and what is left after it
module _ {A : Type 0} (xs : List A) where
  item_is : (d : A) (n : ℕ) (x : A) (more : List A) → drop n xs ≡ x ∷ more → get_or xs n d ≡ x
  item_is d n x more cut = ap (λ m. get_or xs m d) (omega arith) ∙ sym (get_or-drop n xs 0 d) ∙ ap (λ ys. get_or ys 0 d) cut

  items_left : (n : ℕ) (x : A) (more : List A) → drop n xs ≡ x ∷ more → (m : ℕ) → m ≡ n + 1 → more ≡ drop m xs
  items_left n x more cut m next = ap (drop 1) (sym cut) ∙ drop-drop 1 n xs ∙ ap (λ n. drop n xs) (sym next)

-- and so for flags that come beside the blocks
module _ (chosen : List Bool) (n i m : ℕ) (s t : Iter Bool) (flag : Bor Bool) (left : iter_rest s ≡ drop n chosen) (here : i ≡ n) (next : m ≡ i + 1)
    (h : iter_steps s (Some flag) t) where
  pub flag_is : get_or chosen i false ≡ flag.now
  flag_is = ap (λ n. get_or chosen n false) here ∙ item_is chosen false n _ _ (sym left ∙ h)

  pub flags_left : iter_rest t ≡ drop m chosen
  flags_left = items_left chosen n _ _ (sym left ∙ h) m (omega (arith, here, next))

-- more numbers pass below a higher bound
count_grows : (p : ℕ → Bool) (m n : ℕ) → m ≤ n → count p m ≤ count p n
count_grows p m zero l = let none : 0 ≡ m = omega arith in subst (λ x. count p x ≤ count p 0) none (omega arith)
count_grows p m (suc n) l = ⊎_elim (λ (s : m ≡ suc n). subst (λ x. count p m ≤ count p x) s (omega arith))
    (λ (ne : m ≡ suc n → ⊥). step (p n) (count p n) (count_grows p m n (omega arith))) (cases_eq m (suc n))
  where
    step : (b : Bool) (x : ℕ) → count p m ≤ x → count p m ≤ cond b (suc x) x
    step true x h = omega arith
    step false x h = h

-- what a loop over the marks that pass, by their numbers, has left, where `room` more may come
pub record MarksLeft (marks : List ℕ) (k room : ℕ) (flags : List Bool) (s : Enumerate (Iter ℕ)) : Type 0 where
  pub rest : iter_rest (enumerate_source s) ≡ drop (enumerate_count s) marks
  pub counted : count (marks_held marks) (enumerate_count s) + room ≡ k
  pub are : Flags (among_lowest k (marks_held marks)) flags (enumerate_count s)

module _ (marks : List ℕ) (k room : ℕ) (flags : List Bool) where
  -- one mark more, which passes or not
  module _ (s t : Enumerate (Iter ℕ)) (i : ℕ) (mark : Bor ℕ) (had : MarksLeft marks k room flags s) (h : enumerate_steps iter_steps s (Some (i, mark)) t) where
    mark_cut : drop (enumerate_count s) marks ≡ mark.now ∷ iter_rest (enumerate_source t)
    mark_cut = sym had.rest ∙ h.0

    mark_byte : get_or marks (enumerate_count s) 0 ≡ mark.now
    mark_byte = item_is marks 0 (enumerate_count s) _ _ mark_cut

    mark_rest : iter_rest (enumerate_source t) ≡ drop (enumerate_count t) marks
    mark_rest = items_left marks (enumerate_count s) _ _ mark_cut (enumerate_count t) h.2

    pub mark_below : i < length marks
    mark_below = omega (arith, ap length mark_cut, length-drop (enumerate_count s) marks, h.1)

    mark_skip : false ≡ not (eqb mark.now 0) → MarksLeft marks k room flags t
    mark_skip e =
        let none : marks_held marks (enumerate_count s) ≡ false = ap (λ x. not (eqb x 0)) mark_byte ∙ sym e in
        record {
          rest = mark_rest;
          counted = ap (λ n. count (marks_held marks) n + room) h.2 ∙ ap (λ n. n + room) (count_skip (marks_held marks) (enumerate_count s) none) ∙ had.counted;
          are = subst (Flags (among_lowest k (marks_held marks)) flags) (sym h.2)
              (flag_skip _ flags (enumerate_count s) had.are (ap (λ b. b && ltb (count (marks_held marks) (enumerate_count s)) k) none));
        }

    pub mark_set : true ≡ not (eqb mark.now 0) → (left : ℕ) → left + 1 ≡ room → i < length flags → MarksLeft marks k left (set flags i true) t
    mark_set e left one l =
        let some : marks_held marks (enumerate_count s) ≡ true = ap (λ x. not (eqb x 0)) mark_byte ∙ sym e in
        let more = count_more (marks_held marks) (enumerate_count s) some in
        record {
          rest = mark_rest;
          counted = ap (λ n. count (marks_held marks) n + left) h.2 ∙ omega (arith, more, one, had.counted);
          are = subst (Flags (among_lowest k (marks_held marks)) (set flags i true)) (sym h.2)
              (subst (λ n. Flags (among_lowest k (marks_held marks)) (set flags n true) (enumerate_count s + 1)) (sym h.1)
              (flag_set _ flags (enumerate_count s) had.are true (subst (λ n. n < length flags) h.1 l)
              (sym (ap₂ (λ a b. a && b) some (lt-ltb (count (marks_held marks) (enumerate_count s)) k (omega (arith, one, had.counted)))))));
        }

  module _ {F : Type 0} (g : Mut F (Bor (ℕ × Bor ℕ) × Unit {0}) Bool)
      (tells : (p : F) (x : ℕ × Bor ℕ) (b : Bool) (q : F) → CalledAt g p x b q → b ≡ not (eqb x.1.now 0)) where
    marks_skip : (xs : List (ℕ × Bor ℕ)) (p q : F) (s t : Enumerate (Iter ℕ)) → Yields (enumerate_steps iter_steps) s xs t
        → FoldsTo (λ p x q. CalledAt g p x false q) p xs q → MarksLeft marks k room flags s → MarksLeft marks k room flags t
    marks_skip [] p q s t y f had = subst (MarksLeft marks k room flags) y had
    marks_skip (x ∷ xs) p q s t y f had =
        marks_skip xs f.0 q y.0 t y.2 f.2 (mark_skip s y.0 x.0 x.1 had y.1 (tells p x false f.0 f.1))

    module _ (s t : Take (Filter (Enumerate (Iter ℕ)) F)) (had : MarksLeft marks k room flags (filter_source (take_source s))) (is : take_count s ≡ room) where
      pub marks_turn : (x : ℕ × Bor ℕ) → take_steps (filter_steps (enumerate_steps iter_steps) g) s (Some x) t → length marks ≤ length flags
          → MarksLeft marks k (take_count t) (set flags x.0 true) (filter_source (take_source t))
      marks_turn x h wide =
          let (xs, f, (u, goes, last), passed, here) = h.0 in
          let at = marks_skip xs _ f _ u goes passed had in
          mark_set u (filter_source (take_source t)) x.0 x.1 at last (tells f x true _ here) (take_count t) (h.1 ∙ is) (omega (arith, wide, mark_below u (filter_source (take_source t)) x.0 x.1 at last))

      pub marks_end : take_steps (filter_steps (enumerate_steps iter_steps) g) s None t → (i : ℕ) → get_or flags i false ≡ among_lowest k (marks_held marks) i
      marks_end h i = ⊎_elim full some (cases_eq room 0)
        where
          full : room ≡ 0 → get_or flags i false ≡ among_lowest k (marks_held marks) i
          full none = ⊎_elim (had.are.below i)
              (λ l. had.are.rest i l ∙ sym (ap (λ b. marks_held marks i && b) (le-ltb (count (marks_held marks) i) k
              (omega (arith, had.counted, none, count_grows (marks_held marks) (enumerate_count (filter_source (take_source s))) i l))) ∙ and-false (marks_held marks i)))
              (cases_lt i (enumerate_count (filter_source (take_source s))))

          some : (room ≡ 0 → ⊥) → get_or flags i false ≡ among_lowest k (marks_held marks) i
          some one =
              let (xs, f, (u, goes, last), passed, _) = h (omega (arith, is)) in
              let at = marks_skip xs _ f _ u goes passed had in
              let all : length marks ≤ enumerate_count u = omega (arith, last.0.0, ap length at.rest, length-drop (enumerate_count u) marks) in
              ⊎_elim (at.are.below i)
              (λ l. at.are.rest i l ∙ sym (ap (λ x. not (eqb x 0) && ltb (count (marks_held marks) i) k) (get_or_past marks i 0 (omega (arith, all)))))
              (cases_lt i (enumerate_count u))

-- one more number of a sum, which is chosen or not
module _ (chosen : ℕ → Bool) (f : ℕ → ℕ) (s t i : ℕ) (here : i ≡ s) (next : t ≡ i + 1) where
  pub sum_turn : (x y : ℕ) → x ≡ summed chosen f s → chosen i ≡ true → y ≡ f i → bit_xor x y ≡ summed chosen f t
  sum_turn x y before in_ more =
      ap₂ bit_xor (before ∙ ap (summed chosen f) (sym here)) more ∙ sym (summed_more chosen f i in_) ∙ ap (summed chosen f) (sym next)

  pub sum_pass : (x : ℕ) → x ≡ summed chosen f s → chosen i ≡ false → x ≡ summed chosen f t
  sum_pass x before out = before ∙ ap (summed chosen f) (sym here) ∙ sym (summed_skip chosen f i out) ∙ ap (summed chosen f) (sym next)

-- the start of both: no block has come, and the sum over none is 0
pub blocks_start : (bytes : List ℕ) (s : Enumerate (ChunksExact ℕ)) → chunks_exact_size (enumerate_source s) ≡ 64
    → chunks_exact_rest (enumerate_source s) ≡ bytes → enumerate_count s ≡ 0 → BlocksLeft bytes s
blocks_start bytes s size rest none = record { size = size; rest = rest ∙ ap (λ n. drop (n * 64) bytes) (sym none); within = omega arith }

pub sum_start : (chosen : ℕ → Bool) (f : ℕ → ℕ) (s : ℕ) (out : List ℕ) (j : ℕ) → s ≡ 0 → j < 64 → out ≡ replicate 64 0 → get_or out j 0 ≡ summed chosen f s
unfolding summed
sum_start chosen f s out j none l zeros =
    ap (λ xs. get_or xs j 0) zeros ∙ get_or-replicate 64 j 0 0 l ∙ ap (summed chosen f) (sym none)
