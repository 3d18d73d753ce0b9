use Rattle.std.proofs.Common.{◌∙◌, ap, sym, refl}
use Rattle.std.proofs.lemmas.Option.{IfSome_then}
use Rattle.std.proofs.lemmas.Result.{IfOk-weaker}
use Rattle.setl_value.specs.declared.Value.TheVariants.{Set, Tuple}
use Rattle.setl_value.specs.code.DatumOf.{datum}
use Rattle.setl_machine_updates.proofs.Parts.{handed_on}
use Rattle.setl_machine_updates.proofs.one_part.change_part.Goals as goal

pub returns-in-Set-clause-changed : goal.returns-in-Set-clause-changed
returns-in-Set-clause-changed g c =
    IfOk-weaker c.change_in_map.result _ _
    (λ o h. IfSome_then o h (λ r k. handed_on g.F.FnOnce c.args.change (datum c.args.x.now) (datum c.args.whole.now) _ _ _ r (ap datum (sym c.in-Set.is)) refl (λ a. ap Set a ∙ sym c.in-Set.is) k))
    c.change_in_map.ensures.changed

pub returns-in-Tuple-clause-changed : goal.returns-in-Tuple-clause-changed
returns-in-Tuple-clause-changed g c =
    IfOk-weaker c.change_in_tuple.result _ _
    (λ o h. IfSome_then o h (λ r k. handed_on g.F.FnOnce c.args.change (datum c.args.x.now) (datum c.args.whole.now) _ _ _ r (ap datum (sym c.in-Tuple.is)) refl (λ a. ap Tuple a ∙ sym c.in-Tuple.is) k))
    c.change_in_tuple.ensures.changed
