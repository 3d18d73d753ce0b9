use Rattle.std.proofs.Common.{arith, ◌≤◌, ◌+◌, ap, ◌∙◌, sym, subst, map}
use Rattle.std.specs.Prelude.{is_some}
use Rattle.std.specs.List.{insert}
use Rattle.setl_value.proofs.Counting.{put_joined, put_counted}
use Rattle.setl_value.proofs.Others.{counted_at_most_length, at_most_one}
use Rattle.setl_value_pages.specs.Pages.{joined}
use Rattle.setl_value.specs.code.Body.{Members}
use Rattle.setl_value_pages.specs.Exchange.{page_sizes, put_size}
use Rattle.setl_value.specs.code.Counted.{IsCounted}
use Rattle.setl_value.specs.Datum.{depth, set_of}
use Rattle.setl_value.specs.code.DatumOf.{datum, page}
use Rattle.setl_value.specs.Order.{IsRising}
use Rattle.setl_value.specs.Pairs.{pair_parts}
use Rattle.setl_value.specs.code.Places.{HasPlace, rank}
use Rattle.setl_value.proofs.PagesOfData.{body_of, exchanges_data, put_data, same_data, still, was_in, were_pages}
use Rattle.setl_value.proofs.Pages.put_in.Goals as goal

pub put_page-requires-clause-pages : goal.put_page-requires-clause-pages
put_page-requires-clause-pages c = were_pages c.self.inside.list.items c.self.invariant.pages

pub put_page-requires-clause-place : goal.put_page-requires-clause-place
unfolding HasPlace
put_page-requires-clause-place c =
    was_in c.self.inside.list.items c.args.c.page c.args.c.index (subst (λ b. HasPlace b c.args.c) (sym c.self.view_is) c.requires.place)

pub overflow_add-self : goal.overflow_add-self
overflow_add-self c =
    let ds = joined (map page c.self.inside.list.items) in
    omega (arith, c.self.invariant.no_pairs, c.self.invariant.counted, counted_at_most_length ds, c.other-other.ensures, at_most_one (is_some (pair_parts (datum c.args.v))), c.in_ok-count.ensures.0, c.in_ok-count.ensures.1)

pub invariant_of-self : goal.invariant_of-self
invariant_of-self c =
    subst (λ ps. IsCounted ps c.self.inside.count c.self.inside.deep c.self.inside.others) (sym (same_data c.self.inside.list.items c.put_page.new.list.items c.in_err-put_page.ensures.refused)) c.self.invariant

pub returns-in_err-put_page-clause-refused : goal.returns-in_err-put_page-clause-refused
returns-in_err-put_page-clause-refused c =
    still c.from_residual-in_err-put_page.result (ap body_of (same_data c.self.inside.list.items c.put_page.new.list.items c.in_err-put_page.ensures.refused) ∙ c.self.view_is)

pub returns-clause-pages : goal.returns-clause-pages
returns-clause-pages c =
    let k = c.args.c.page in
    (k, put_data c.self.inside.list.items c.put_page.new.list.items k c.in_ok-put_page.ensures.sizes ∙ ap (λ b. put_size (page_sizes b.pages) k) c.self.view_is)

pub invariant_of-self-2 : goal.invariant_of-self-2
unfolding HasPlace rank
invariant_of-self-2 c =
    let ps = map page c.self.inside.list.items in
    let h = (subst (λ b. HasPlace b c.args.c) (sym c.self.view_is) c.requires.place).1 in
    put_counted c.self.invariant h (exchanges_data c.self.inside.list.items c.put_page.new.list.items c.in_ok-put_page.ensures.put) c.learn.ensures
    (subst (λ b. IsRising (insert (Members b) (rank b c.args.c) (datum c.args.v))) (sym c.self.view_is) c.requires.rising)
    (subst (λ b. depth (set_of (insert (Members b) (rank b c.args.c) (datum c.args.v))) ≤ 500) (sym c.self.view_is) c.requires.shallow)
    c.in_ok-count.count c.max-self-inside.result (c.self.inside.others + c.other-other.result) c.in_ok-count.ensures.0
    (omega (arith, c.max-self-inside.ensures, c.depth-deep.ensures)) (omega (arith, c.other-other.ensures))

pub returns-clause-put : goal.returns-clause-put
unfolding HasPlace rank
returns-clause-put c =
    let h = (subst (λ b. HasPlace b c.args.c) (sym c.self.view_is) c.requires.place).1 in
    put_joined h (exchanges_data c.self.inside.list.items c.put_page.new.list.items c.in_ok-put_page.ensures.put) ∙ ap (λ b. insert (Members b) (rank b c.args.c) (datum c.args.v)) c.self.view_is
