use Rattle.std.proofs.Common.{arith, ◌≡◌, ◌≤◌, ◌-◌, ◌+◌, ap, ◌∙◌, sym, subst, map, length, take, drop}
use Rattle.std.specs.List.{AllByRecursion}
use Rattle.std.proofs.lemmas.List.{length-map}
use Rattle.setl_value_pages.specs.ListLaws.{replaced}
use Rattle.setl_value.proofs.Bodies.{depth_replaced}
use Rattle.setl_value.proofs.Counting.{part_counted, gone_few, gone_shallow, others_fit, depth_left}
use Rattle.setl_value_pages.specs.PageLaws.{exchanged_between}
use Rattle.setl_value_pages.specs.Pages.{IsIn, joined, page_at, rank_in}
use Rattle.setl_value.specs.code.Body.{Members}
use Rattle.setl_value.specs.code.Counted.{IsCounted}
use Rattle.setl_value.specs.Datum.{depth, set_of}
use Rattle.setl_value.specs.code.DatumOf.{datum, page}
use Rattle.setl_value.specs.Order.{IsRising}
use Rattle.setl_value.specs.Pairs.{other_count}
use Rattle.setl_value.specs.code.Places.{HasPlace, rank}
use Rattle.setl_value.specs.WellFormed.{IsWellFormed}
use Rattle.setl_value.proofs.PagesOfData.{body_of, exchanges_data, same_data, still, was_in, were_pages}
use Rattle.setl_value.proofs.Pages.replace_in.Goals as goal

pub leaving-gone-requires : goal.leaving-gone-requires
unfolding HasPlace rank
leaving-gone-requires c =
    let xs = c.self.inside.list.items in
    let ps = map page xs in
    let k = c.args.c.page in
    let i = c.args.c.index in
    let r = rank_in ps k i in
    let n = c.args.count in
    let ms = map datum c.args.by.items in
    let behind : c.members_behind.result ≡ drop r (joined ps) = c.members_behind.ensures ∙ ap (λ l. drop (rank_in (map page l) k i) (joined (map page l))) c.as_slice-list.ensures.value in
    omega (arith, ap (λ l. depth (set_of l)) behind, gone_shallow (joined ps) r c.self.invariant.members.1)

pub overflow_sub-kept : goal.overflow_sub-kept
unfolding HasPlace rank
overflow_sub-kept c =
    let xs = c.self.inside.list.items in
    let ps = map page xs in
    let k = c.args.c.page in
    let i = c.args.c.index in
    let r = rank_in ps k i in
    let n = c.args.count in
    let ms = map datum c.args.by.items in
    let behind : c.members_behind.result ≡ drop r (joined ps) = c.members_behind.ensures ∙ ap (λ l. drop (rank_in (map page l) k i) (joined (map page l))) c.as_slice-list.ensures.value in
    let gone : c.leaving-gone.result.others ≡ other_count (take n (drop r (joined ps))) = c.leaving-gone.ensures.others ∙ ap (λ l. other_count (take n l)) behind in
    gone_few r n c.leaving-gone.result.others c.self.invariant gone

pub depth_of-requires-clause-bound : goal.depth_of-requires-clause-bound
unfolding HasPlace rank
depth_of-requires-clause-bound c =
    let xs = c.self.inside.list.items in
    let ps = map page xs in
    let k = c.args.c.page in
    let i = c.args.c.index in
    let r = rank_in ps k i in
    let n = c.args.count in
    let ms = map datum c.args.by.items in
    let shallow : depth (set_of (replaced (joined ps) r (r + n) ms)) ≤ 500 = subst (λ b. depth (set_of (replaced (Members b) (rank b c.args.c) (rank b c.args.c + n) ms)) ≤ 500) (sym c.self.view_is) c.requires.shallow in
    omega (arith, ap (λ l. depth (set_of (map datum l))) c.as_slice-3.ensures.value, (depth_replaced (joined ps) r (r + n) ms).0, shallow)

pub depth_without-self-inside-requires-clause-small : goal.depth_without-self-inside-requires-clause-small
unfolding HasPlace rank
depth_without-self-inside-requires-clause-small c =
    let xs = c.self.inside.list.items in
    let ps = map page xs in
    let k = c.args.c.page in
    let i = c.args.c.index in
    let r = rank_in ps k i in
    let n = c.args.count in
    let ms = map datum c.args.by.items in
    let shallow : depth (set_of (replaced (joined ps) r (r + n) ms)) ≤ 500 = subst (λ b. depth (set_of (replaced (Members b) (rank b c.args.c) (rank b c.args.c + n) ms)) ≤ 500) (sym c.self.view_is) c.requires.shallow in
    omega (arith, c.max-most.ensures, c.depth_of.ensures, ap (λ l. depth (set_of (map datum l))) c.as_slice-3.ensures.value, (depth_replaced (joined ps) r (r + n) ms).0, shallow, c.self.invariant.deepest, c.self.invariant.members.1)

pub depth_without-self-inside-requires-clause-cut : goal.depth_without-self-inside-requires-clause-cut
unfolding HasPlace rank
depth_without-self-inside-requires-clause-cut c =
    let xs = c.self.inside.list.items in
    let ps = map page xs in
    let k = c.args.c.page in
    let i = c.args.c.index in
    let r = rank_in ps k i in
    let n = c.args.count in
    let ms = map datum c.args.by.items in
    let behind : c.members_behind.result ≡ drop r (joined ps) = c.members_behind.ensures ∙ ap (λ l. drop (rank_in (map page l) k i) (joined (map page l))) c.as_slice-list.ensures.value in
    let deep : c.leaving-gone.result.deep ≡ depth (set_of (take n (drop r (joined ps)))) = c.leaving-gone.ensures.deep ∙ ap (λ l. depth (set_of (take n l))) behind in
    let l = c.place_behind-end.result.page in
    let j = c.place_behind-end.result.index in
    let hi : i ≤ length (page_at ps k) = (subst (λ b. HasPlace b c.args.c) (sym c.self.view_is) c.requires.place).1 in
    let hj : j ≤ length (page_at ps l) = subst (λ q. j ≤ length (page_at (map page q) l)) c.as_slice-list.ensures.value c.place_behind-end.ensures.place.1 in
    let z : rank_in ps l j ≡ r + n = subst (λ q. rank_in (map page q) l j ≡ rank_in (map page q) k i + n) c.as_slice-list.ensures.value c.place_behind-end.ensures.rank in
    omega (arith, ap (λ l. depth (set_of (joined (map page l)))) c.as_slice-4.ensures.value, depth_left n hi hj z (exchanges_data c.self.inside.list.items c.replace_pages.new.list.items c.in_ok-replace_pages.ensures.replaced), deep, c.max-most.ensures, c.depth_of.ensures, ap (λ l. depth (set_of (map datum l))) c.as_slice-3.ensures.value, c.self.invariant.deepest)

pub overflow_add-self : goal.overflow_add-self
unfolding HasPlace rank
overflow_add-self c =
    let xs = c.self.inside.list.items in
    let ps = map page xs in
    let k = c.args.c.page in
    let i = c.args.c.index in
    let r = rank_in ps k i in
    let n = c.args.count in
    let ms = map datum c.args.by.items in
    let behind : c.members_behind.result ≡ drop r (joined ps) = c.members_behind.ensures ∙ ap (λ l. drop (rank_in (map page l) k i) (joined (map page l))) c.as_slice-list.ensures.value in
    let gone : c.leaving-gone.result.others ≡ other_count (take n (drop r (joined ps))) = c.leaving-gone.ensures.others ∙ ap (λ l. other_count (take n l)) behind in
    let there : r + n ≤ length (joined ps) = subst (λ b. rank b c.args.c + n ≤ length (Members b)) (sym c.self.view_is) c.requires.there in
    omega (arith, others_fit r n c.leaving-gone.result.others ms c.self.invariant there gone, c.others_in-others.ensures, ap (λ l. other_count (map datum l)) c.as_slice-2.ensures.value, c.in_ok-total.ensures.0, c.in_ok-total.ensures.1, c.len.ensures, length-map c.args.by.items datum)

pub replace_pages-requires-clause-pages : goal.replace_pages-requires-clause-pages
replace_pages-requires-clause-pages c = were_pages c.self.inside.list.items c.self.invariant.pages

pub replace_pages-requires-clause-from : goal.replace_pages-requires-clause-from
unfolding HasPlace
replace_pages-requires-clause-from c =
    was_in c.self.inside.list.items c.args.c.page c.args.c.index (subst (λ b. HasPlace b c.args.c) (sym c.self.view_is) c.requires.place)

pub replace_pages-requires-clause-to : goal.replace_pages-requires-clause-to
replace_pages-requires-clause-to c =
    let l = c.place_behind-end.result.page in
    let j = c.place_behind-end.result.index in
    was_in c.self.inside.list.items l j (subst (λ q. IsIn (map page q) l j) c.as_slice-list.ensures.value c.place_behind-end.ensures.place)

pub invariant_of-self : goal.invariant_of-self
invariant_of-self c =
    subst (λ ps. IsCounted ps c.self.inside.count c.self.inside.deep c.self.inside.others) (sym (same_data c.self.inside.list.items c.replace_pages.new.list.items c.in_err-replace_pages.ensures.refused)) c.self.invariant

pub returns-in_err-replace_pages-clause-refused : goal.returns-in_err-replace_pages-clause-refused
returns-in_err-replace_pages-clause-refused c =
    still c.from_residual-in_err-replace_pages.result (ap body_of (same_data c.self.inside.list.items c.replace_pages.new.list.items c.in_err-replace_pages.ensures.refused) ∙ c.self.view_is)

pub invariant_of-self-2 : goal.invariant_of-self-2
unfolding HasPlace rank
invariant_of-self-2 c =
    let xs = c.self.inside.list.items in
    let ps = map page xs in
    let k = c.args.c.page in
    let i = c.args.c.index in
    let r = rank_in ps k i in
    let n = c.args.count in
    let ms = map datum c.args.by.items in
    let behind : c.members_behind.result ≡ drop r (joined ps) = c.members_behind.ensures ∙ ap (λ l. drop (rank_in (map page l) k i) (joined (map page l))) c.as_slice-list.ensures.value in
    let gone : c.leaving-gone.result.others ≡ other_count (take n (drop r (joined ps))) = c.leaving-gone.ensures.others ∙ ap (λ l. other_count (take n l)) behind in
    let l = c.place_behind-end.result.page in
    let j = c.place_behind-end.result.index in
    let hi : i ≤ length (page_at ps k) = (subst (λ b. HasPlace b c.args.c) (sym c.self.view_is) c.requires.place).1 in
    let hj : j ≤ length (page_at ps l) = subst (λ q. j ≤ length (page_at (map page q) l)) c.as_slice-list.ensures.value c.place_behind-end.ensures.place.1 in
    let z : rank_in ps l j ≡ r + n = subst (λ q. rank_in (map page q) l j ≡ rank_in (map page q) k i + n) c.as_slice-list.ensures.value c.place_behind-end.ensures.rank in
    let shallow : depth (set_of (replaced (joined ps) r (r + n) ms)) ≤ 500 = subst (λ b. depth (set_of (replaced (Members b) (rank b c.args.c) (rank b c.args.c + n) ms)) ≤ 500) (sym c.self.view_is) c.requires.shallow in
    let there : r + n ≤ length (joined ps) = subst (λ b. rank b c.args.c + n ≤ length (Members b)) (sym c.self.view_is) c.requires.there in
    let fine : AllByRecursion IsWellFormed ms = subst (λ l. AllByRecursion IsWellFormed (map datum l)) c.as_slice.ensures.value c.learn_members.ensures in
    let rising : IsRising (replaced (joined ps) r (r + n) ms) = subst (λ b. IsRising (replaced (Members b) (rank b c.args.c) (rank b c.args.c + n) ms)) (sym c.self.view_is) c.requires.rising in
    part_counted n c.leaving-gone.result.others c.self.invariant hi hj z (exchanges_data c.self.inside.list.items c.replace_pages.new.list.items c.in_ok-replace_pages.ensures.replaced) fine rising shallow gone c.in_ok-total.total c.depth_without-self-inside.result
    (c.self.inside.others - c.leaving-gone.result.others + c.others_in-others.result) (omega (arith, c.in_ok-total.ensures.0, c.len.ensures, length-map c.args.by.items datum, c.self.invariant.counted, there))
    (c.depth_without-self-inside.ensures ∙ ap (λ l. depth (set_of (joined (map page l)))) c.as_slice-4.ensures.value)
    (omega (arith, c.others_in-others.ensures, ap (λ l. other_count (map datum l)) c.as_slice-2.ensures.value, gone_few r n c.leaving-gone.result.others c.self.invariant gone))

pub returns-clause-replaced : goal.returns-clause-replaced
unfolding HasPlace rank
returns-clause-replaced c =
    let xs = c.self.inside.list.items in
    let ps = map page xs in
    let k = c.args.c.page in
    let i = c.args.c.index in
    let r = rank_in ps k i in
    let n = c.args.count in
    let ms = map datum c.args.by.items in
    let l = c.place_behind-end.result.page in
    let j = c.place_behind-end.result.index in
    let hi : i ≤ length (page_at ps k) = (subst (λ b. HasPlace b c.args.c) (sym c.self.view_is) c.requires.place).1 in
    let hj : j ≤ length (page_at ps l) = subst (λ q. j ≤ length (page_at (map page q) l)) c.as_slice-list.ensures.value c.place_behind-end.ensures.place.1 in
    let z : rank_in ps l j ≡ r + n = subst (λ q. rank_in (map page q) l j ≡ rank_in (map page q) k i + n) c.as_slice-list.ensures.value c.place_behind-end.ensures.rank in
    exchanged_between hi hj (exchanges_data c.self.inside.list.items c.replace_pages.new.list.items c.in_ok-replace_pages.ensures.replaced) ∙ ap (λ m. replaced (joined ps) r m ms) z ∙ ap (λ b. replaced (Members b) (rank b c.args.c) (rank b c.args.c + n) ms) c.self.view_is
