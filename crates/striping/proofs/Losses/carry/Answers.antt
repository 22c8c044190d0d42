use Rattle.std.proofs.Common.{◌≡◌, ℕ, ◌+◌, ◌<◌, cond, ◌++◌, length, is_ok, vec_items, sym, ap, ◌∙◌, subst, arith}
use Rattle.block.proofs.Bytes.{all_bytes}
use Rattle.code.specs.Calls.{block_at, first}
use Rattle.code.proofs.Blocks.{first_blocks, first_count, first_at}
use Rattle.striping.proofs.Blocks.{front_byte, front_part}
use Rattle.striping.proofs.Losses.carry.Goals as goal

pub returns : goal.returns
returns g c =
    let self = c.args.self.now in
    let code = self.code.now in
    let coding = g.C.Code.coding code in
    let k = coding.k in
    let n = k + coding.m in
    let long : length self.marks.now ≡ n = self.long in
    let loaded = c.load.new.out in
    let left = c.restore_all.new.stripe in
    let small = all_bytes loaded (λ j l. subst (λ x. x < 256) (sym (c.load.ensures j l)) (c.type_inv.part j).fits) in
    let blocks = first_blocks k n loaded (omega arith) small in
    let counted = first_count k coding.m loaded in
    let laws = g.C.Code.completes code in
    let whole = c.restore_all.ensures (coding.whole (first k loaded)) (laws.word (first k loaded) blocks counted)
    (λ i l t. c.forget.ensures.kept i t ∙ c.add_checks.ensures i (omega arith)) in
    let back : (i : ℕ) → i < k → block_at left i ≡ block_at loaded i =
    λ i l. whole i (omega arith) ∙ laws.has (first k loaded) blocks counted i (block_at loaded i) (omega arith) (first_at k loaded i l) in
    let bytes = λ (j : ℕ) (l : j < length c.args.part.now). front_byte left loaded k back j (omega arith) ∙ c.load.ensures j (omega arith) in
    c.extend_from_slice.ensures.items
    ∙ ap (λ p. cond (is_ok c.extend_from_slice.result) (vec_items c.args.out.now ++ p) (vec_items c.args.out.now))
    (front_part left c.args.part.now (omega arith) bytes)
