use Rattle.std.proofs.Common.{◌≡◌, ◌∙◌, sym, arith, map, ◌+◌, ◌-◌, ◌/◌, ◌⊎◌, ℕ, inl, inr}
use Rattle.std.proofs.lemmas.List.{length-map}
use Rattle.setl_value.specs.code.DatumOf.{datum, page}
use Rattle.setl_value.specs.code.Sought.{sought}
use Rattle.setl_value_pages.specs.PageLaws.{page_there}
use Rattle.setl_value.proofs.PageSearch.{page_raised, page_lowered, one_between}
use Rattle.setl_value.proofs.PagesOfData.{item_data, were_pages}
use Rattle.setl_value.proofs.places.page_in.Goals as goal

same_length : {P : Type 0} {m n : ℕ} → P ⊎ (m ≡ 0) → n ≡ m → P ⊎ (n ≡ 0)
same_length (inl p) e = inl p
same_length (inr h) e = inr (e ∙ h)

pub first_at-requires-clause-pages : goal.first_at-requires-clause-pages
first_at-requires-clause-pages c = were_pages c.args.pages.now c.requires.pages

pub loop-high-preserved-then-is_below : goal.loop-high-preserved-then-is_below
loop-high-preserved-then-is_below c =
    let ps = map page c.args.pages.now in
    let i = c.loop-high.invariant in
    let m = c.loop-high.low + (c.loop-high.high - c.loop-high.low) / 2 in (
      omega (arith, i.0, c.loop-high-test.true),
      i.1,
      inl (omega (arith, c.loop-high-test.true)),
      page_raised (sought c.args.what) ps c.requires.pages c.requires.rising c.loop-high.low c.loop-high.high m (datum c.first_at.result.now) i.3 (omega (arith, c.loop-high-test.true)) (omega (arith, i.1, length-map c.args.pages.now page)) (item_data c.args.pages.now m 0 c.first_at.result.now c.first_at.ensures)
          (page_there ps m c.requires.pages (omega (arith, i.1, c.loop-high-test.true, length-map c.args.pages.now page))).0 (sym c.is_below.ensures ∙ c.if-is_below.true),
    )

pub loop-high-preserved : goal.loop-high-preserved
loop-high-preserved c =
    let ps = map page c.args.pages.now in
    let i = c.loop-high.invariant in
    let m = c.loop-high.low + (c.loop-high.high - c.loop-high.low) / 2 in (
      omega arith,
      omega (arith, i.1, c.loop-high-test.true),
      inl (omega (arith, c.loop-high-test.true)),
      page_lowered (sought c.args.what) ps c.requires.pages c.requires.rising c.loop-high.low c.loop-high.high m (datum c.first_at.result.now) i.3 (omega arith) (omega (arith, c.loop-high-test.true)) (omega (arith, i.1, length-map c.args.pages.now page)) (item_data c.args.pages.now m 0 c.first_at.result.now c.first_at.ensures)
          (page_there ps m c.requires.pages (omega (arith, i.1, c.loop-high-test.true, length-map c.args.pages.now page))).0 (sym c.is_below.ensures ∙ c.if-is_below.false),
    )

pub returns-clause-bound : goal.returns-clause-bound
returns-clause-bound c =
    let ps = map page c.args.pages.now in
    let i = c.loop-high.invariant in
    one_between (sought c.args.what) ps c.loop-high.low c.loop-high.high i.0 (omega (arith, c.loop-high-test.false)) (same_length i.2 (length-map c.args.pages.now page)) (omega (arith, i.1, length-map c.args.pages.now page)) i.3
