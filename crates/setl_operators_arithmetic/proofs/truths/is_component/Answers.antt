use Rattle.std.proofs.Common.{◌≡◌, Option, None, ◌||◌, arith, ap, sym, ◌∙◌, get_or}
use Rattle.std.proofs.lemmas.List.{take_all}
use Rattle.std.proofs.lemmas.List.Folds.{list_any_at, list_any_more}
use Rattle.std.proofs.lemmas.Option.{unwrap_or-slice_get}
use Rattle.std.specs.List.{list_any}
use Rattle.setl_value.specs.Datum.{Datum}
use Rattle.setl_value.specs.code.DatumOf.{datum}
use Rattle.setl_value.specs.Pairs.{is_datum}
use Rattle.setl_operators_arithmetic.proofs.truths.is_component.Goals as goal

pub returns-then-is_at : goal.returns-then-is_at
returns-then-is_at c =
    let f = λ (p : Option Datum). is_datum (datum c.args.v.now) p in
    let h : c.is_at.result ≡ f (get_or c.args.t.now c.loop-i.i None) = c.is_at.ensures ∙ ap f (unwrap_or-slice_get c.args.t.now c.loop-i.i None) in
    sym (list_any_at f c.args.t.now c.loop-i.i None (omega arith) (sym h ∙ c.if-is_at.true))

pub loop-i-preserved : goal.loop-i-preserved
loop-i-preserved c =
    let f = λ (p : Option Datum). is_datum (datum c.args.v.now) p in
    let h : c.is_at.result ≡ f (get_or c.args.t.now c.loop-i.i None) = c.is_at.ensures ∙ ap f (unwrap_or-slice_get c.args.t.now c.loop-i.i None) in
    list_any_more f c.args.t.now c.loop-i.i None (omega arith) ∙ (λ k. c.loop-i.invariant k || (sym h ∙ c.if-is_at.false) k)

pub returns : goal.returns
returns c =
    let f = λ (p : Option Datum). is_datum (datum c.args.v.now) p in
    sym (ap (list_any f) (sym (take_all c.loop-i.i c.args.t.now (omega arith))) ∙ c.loop-i.invariant)
