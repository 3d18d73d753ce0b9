use Rattle.std.proofs.Common.{arith, ap, ◌∙◌, sym, subst, map, length}
use Rattle.std.specs.List.{AllByRecursion}
use Rattle.std.proofs.lemmas.List.{length-map}
use Rattle.setl_value.proofs.Bodies.{set_from}
use Rattle.setl_value.specs.Datum.{depth, set_of}
use Rattle.setl_value.specs.code.DatumOf.{datum}
use Rattle.setl_value.specs.Pairs.{other_count}
use Rattle.setl_value.specs.WellFormed.{IsSetList, IsWellFormed}
use Rattle.setl_value.proofs.PagesOfData.{are_pages, joined_data}
use Rattle.setl_value.proofs.Pages.from_rising.Goals as goal

pub invariant_of-result : goal.invariant_of-result
invariant_of-result c =
    let vs = c.args.items.items in
    let xs = c.in_ok-paged.field-0.items in
    let w = joined_data xs ∙ ap (map datum) c.in_ok-paged.ensures.all in
    let fine : AllByRecursion IsWellFormed (map datum vs) = subst (λ l. AllByRecursion IsWellFormed (map datum l)) c.as_slice.ensures.value c.learn_members.ensures in
    record {
      pages = are_pages xs c.in_ok-paged.ensures.pages;
      members = subst IsSetList (sym w) (set_from (map datum vs) fine c.requires.rising c.requires.shallow);
      counted = omega (arith, c.len-count.ensures, length-map vs datum, ap length w);
      deepest = c.depth_of-deep.ensures ∙ ap (λ l. depth (set_of (map datum l))) c.as_slice-2.ensures.value ∙ ap (λ l. depth (set_of l)) (sym w);
      no_pairs = c.others_in-others.ensures ∙ ap (λ l. other_count (map datum l)) c.as_slice-3.ensures.value ∙ ap other_count (sym w);
    }

pub returns : goal.returns
returns c = record { made = joined_data c.in_ok-paged.field-0.items ∙ ap (map datum) c.in_ok-paged.ensures.all }
