use Rattle.std.proofs.Common.{◌≡◌, ◌≤◌, ◌<◌, ◌+◌, ◌⊎◌, ℕ, arith, ap, map, length, inl, inr, take}
use Rattle.std.specs.Prelude.{suc}
use Rattle.setl_value_pages.specs.Pages.{joined}
use Rattle.setl_value.specs.code.DatumOf.{page}
use Rattle.setl_value_pages.specs.PageLaws.{page_there, stepped}
use Rattle.setl_value.proofs.PagesOfData.{size_data}
use Rattle.setl_value.proofs.body.place_behind.Goals as goal

no_later : {a b : ℕ} {P : Type 0} → (a < b) ⊎ ((a ≡ b) × P) → a ≤ b
no_later (inl h) = omega arith
no_later (inr h) = omega (arith, h.0)

pub loop-index-smaller : goal.loop-index-smaller
loop-index-smaller c =
    let xs = c.args.list.now in
    let k = c.loop-index.page in
    let s = stepped (map page xs) k c.loop-index.index c.requires.pages (omega (arith, c.size_at.ensures, size_data xs k, c.loop-index-test.true)) (omega (arith, c.loop-index.invariant.1, c.requires.there)) in
    omega (arith, c.size_at-index.ensures, size_data xs k, c.loop-index-test.true, (page_there (map page xs) k c.requires.pages (omega (arith, s.0))).0)

pub loop-index-preserved : goal.loop-index-preserved
loop-index-preserved c =
    let ps = map page c.args.list.now in
    let k = c.loop-index.page in
    let s = stepped ps k c.loop-index.index c.requires.pages (omega (arith, c.size_at.ensures, size_data c.args.list.now k, c.loop-index-test.true)) (omega (arith, c.loop-index.invariant.1, c.requires.there)) in (
      omega (arith, s.0),
      omega (arith, ap (λ n. length (joined (take n ps))) {x = k + 1} {y = suc k} (omega arith), s.1, c.size_at-index.ensures, size_data c.args.list.now k, c.loop-index.invariant.1),
      inl (omega (arith, no_later c.loop-index.invariant.2)),
    )
