use Rattle.std.proofs.Common.{arith, ap, sym, ◌∙◌, subst, Some, map}
use Rattle.setl_set.specs.Sets.{set_from}
use Rattle.setl_value.specs.Datum.{depth, set_of}
use Rattle.setl_value.specs.code.DatumOf.{datum}
use Rattle.setl_text.specs.Bytes.{Brace}
use Rattle.setl_text.specs.Reading.{close_bracket, taken, put_value}
use Rattle.setl_text.specs.code.Scans.{open_of, opens, Feeds}
use Rattle.setl_text.proofs.Shallow.{closed_bound, closed_is, depth_values, depth_set_from, present-values}
use Rattle.setl_text.proofs.place.close_set.Goals as goal

pub make_set-requires : goal.make_set-requires
make_set-requires c =
    let a = c.in-Some-InSet in
    omega (arith, closed_bound c.args.opened.now.items c.pop.new.self.items a.field-0 Brace _ a.ensures.items (ap open_of a.field-0-is) c.requires.shallow, depth_values a.vs.items)

pub take_through-requires-clause-fits : goal.take_through-requires-clause-fits
take_through-requires-clause-fits c =
    let a = c.in-Some-InSet in
    omega (arith, closed_bound c.args.opened.now.items c.pop.new.self.items a.field-0 Brace _ a.ensures.items (ap open_of a.field-0-is) c.requires.shallow, depth_values a.vs.items, depth_set_from (map datum a.vs.items), ap depth c.in_ok-set-in-Some-InSet.ensures)

pub returns-in-Some-InSet : goal.returns-in-Some-InSet
returns-in-Some-InSet c =
    let a = c.in-Some-InSet in
    let rest = opens c.pop.new.self.items in
    let was = closed_is c.args.opened.now.items c.pop.new.self.items a.field-0 Brace _ a.ensures.items (ap open_of a.field-0-is) in
    subst (λ s. Feeds s (opens c.take_through.new.opened.items) c.take_through.result)
    (ap (λ d. taken (put_value (Some d) rest)) (c.in_ok-set-in-Some-InSet.ensures ∙ ap (λ ds. set_of (set_from ds)) (sym (present-values a.vs.items))) ∙ ap (close_bracket Brace) (sym was))
    c.take_through.ensures
