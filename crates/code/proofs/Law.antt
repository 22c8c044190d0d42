-- The law of a code, from its form by held blocks. Assumes nothing.
use Rattle.std.proofs.Common.{◌≡◌, ℕ, ◌+◌, ◌<◌, Bool, true, cond, List, [], length, is_some, Some, None, Option, unwrap_or, refl, ap, ◌∙◌, subst}
use Rattle.std.specs.List.{AllByRecursion}
use Rattle.std.proofs.lemmas.Bool.{false≢true}
use Rattle.block.specs.Block.{Block, Blocks, Held, IsBlock}
use Rattle.code.specs.Word.{Coding, Completes, Has, AllBlocks, Distinct, count_held, AnyKBlocksBelongToExactlyOneWord}
use Rattle.block.proofs.Counts.{count_same}
use Rattle.code.proofs.Lowest.{kept, some_under}
use Rattle.code.proofs.Members.{member, count_member, along, at_member}

-- two words that have the same k blocks are the same
abbrev pub Agree : Coding → Type 0
Agree c =
    (h : Held) (w v : Blocks) → count_held h (c.k + c.m) ≡ c.k → c.Word w → c.Word v
    → Has (c.k + c.m) w h → Has (c.k + c.m) v h → (i : ℕ) → i < c.k + c.m → w i ≡ v i

-- the blocks that are put at the numbers of a list
held_at : List ℕ → Blocks → Held
held_at ns put i = cond (member ns i) (Some (put i)) None

pub some_if : (b : Bool) (x y : Block) → cond b (Some x) None ≡ Some y → (b ≡ true) × (x ≡ y)
some_if b x y e = let s = kept b (Some x) y e in (s.0, ap (λ o. unwrap_or o x) s.1)

-- a held block is there
pub some_value : (o : Option Block) → is_some o ≡ true → o ≡ Some (unwrap_or o [])
some_value (Some b) e = refl
some_value None e = absurd (false≢true e)

module _ (ns : List ℕ) (put : Blocks) where
  put_blocks : (n : ℕ) → AllByRecursion (λ i. IsBlock (put i)) ns → AllBlocks n (held_at ns put)
  unfolding held_at
  put_blocks n blocks i b l e =
      let s = some_if (member ns i) (put i) b e in
      subst IsBlock s.1 (at_member (λ i. IsBlock (put i)) ns blocks i s.0)

  put_count : (n : ℕ) → Distinct ns → AllByRecursion (λ i. i < n) ns → count_held (held_at ns put) n ≡ length ns
  unfolding held_at
  put_count n distinct below =
      count_same _ (member ns) n (λ i l. some_under (member ns i) (Some (put i))) ∙ count_member ns n distinct below

  to_held : (n : ℕ) (w : Blocks) → AllByRecursion (λ i. w i ≡ put i) ns → Has n w (held_at ns put)
  unfolding held_at
  to_held n w has i b l e =
      let s = some_if (member ns i) (put i) b e in
      at_member (λ i. w i ≡ put i) ns has i s.0 ∙ s.1

  from_held : (n : ℕ) (w : Blocks) → AllByRecursion (λ i. i < n) ns → Has n w (held_at ns put) → AllByRecursion (λ i. w i ≡ put i) ns
  unfolding held_at
  from_held n w below has =
      along (λ i. w i ≡ put i) ns ns (λ i t. t)
      (λ i t. has i (put i) (at_member (λ i. i < n) ns below i t) (ap (λ b. cond b (Some (put i)) None) t))

pub any_k : (c : Coding) → Completes c → Agree c → AnyKBlocksBelongToExactlyOneWord c
any_k c completes agree ns len distinct below put blocks =
    let n = c.k + c.m in
    let h = held_at ns put in
    let all = put_blocks ns put n blocks in
    let enough = put_count ns put n distinct below ∙ len in
    record {
      word = c.whole h;
      is_word = completes.word h all enough;
      has = from_held ns put n (c.whole h) below (completes.has h all enough);
      only = λ w is has. agree h w (c.whole h) enough is (completes.word h all enough) (to_held ns put n w has) (completes.has h all enough);
    }
