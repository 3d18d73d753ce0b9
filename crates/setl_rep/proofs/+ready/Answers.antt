use Rattle.std.proofs.Common.{rules, ◌≡◌, ◌+◌, suc, drop, sym, ap, subst, arith}
use Rattle.std.proofs.Math.Seq.{drop-cons}
use Rattle.std.proofs.lemmas.Result.{IfOk-weaker}
use Rattle.std.specs.List.{AllByRecursion}
use Rattle.setl_modes.specs.Modes.{mode_of, Elements}
use Rattle.setl_rep_forms.specs.FormOf.{form}
use Rattle.setl_rep.specs.OwnForm.{IsEntryReady}
use Rattle.setl_rep.proofs.ReadyMaps.{all_left, content_over, height, height_of, ready_map}
use Rattle.setl_rep.proofs.+ready.Goals as goal

pub own_map::all_entries_ready-loop-q-init : goal.own_map::all_entries_ready-loop-q-init
own_map::all_entries_ready-loop-q-init t c = λ all. all

pub own_map::all_entries_ready-loop-q-preserved : goal.own_map::all_entries_ready-loop-q-preserved
own_map::all_entries_ready-loop-q-preserved t c =
    let entry = IsEntryReady c.args.bases.now c.args.instance c.args.base.now (mode_of c.args.k.now) (mode_of c.args.r.now) (form c.args.f.now) in
    let list = c.args.list.now in
    let i = c.loop-q.q-index in
    let step : suc i ≡ i + 1 = omega arith in
    λ rest. c.loop-q.invariant (subst (AllByRecursion entry) (sym (drop-cons list i 0 (omega (arith, c.loop-q-test.true)))) (c.in_ok-is_entry_ready.ensures (search rules), subst (λ k. AllByRecursion entry (drop k list)) (sym step) rest))

pub own_map::all_entries_ready-returns : goal.own_map::all_entries_ready-returns
own_map::all_entries_ready-returns t c =
    λ yes.
    c.loop-q.invariant
    (all_left (IsEntryReady c.args.bases.now c.args.instance c.args.base.now (mode_of c.args.k.now) (mode_of c.args.r.now) (form c.args.f.now)) c.args.list.now c.loop-q.q-index
    (omega (arith, c.loop-q-test.false, c.loop-q.auto.q-index-end)))

pub own_map::is_entry_ready-is_ready-requires : goal.own_map::is_entry_ready-is_ready-requires
own_map::is_entry_ready-is_ready-requires t c = (omega arith, content_over c.args.bases.now (form c.args.f.now) c.args.q (form c.in-Some.c.now) c.requires (sym c.in-Some.ensures))

pub own_map::is_map_ready-all_entries_ready-requires : goal.own_map::is_map_ready-all_entries_ready-requires
own_map::is_map_ready-all_entries_ready-requires t c =
    (omega (arith, ap height c.in-Some.ensures, height_of c.in-Some.many c.in-Some.a (Elements c.in-Some.c (mode_of c.in-Some.k.now)) (mode_of c.in-Some.r.now)), c.requires)

pub own_map::is_map_ready-returns : goal.own_map::is_map_ready-returns
own_map::is_map_ready-returns t c =
    let bs = c.args.bases.now in
    let n = c.args.instance in
    let k = mode_of c.in-Some.k.now in
    let r = mode_of c.in-Some.r.now in
    let f = form c.args.f.now in
    IfOk-weaker c.all_entries_ready.result _ _ (λ u each yes.
    ready_map c.tests_are_exact.ensures.membership c.tables_have_their_pairs.ensures.members c.tables_have_their_pairs.ensures.all_images bs n c.in-Some.c k r
    (mode_of c.args.mode.now) c.in-Some.a c.named-b.result c.in-Some.many f c.at.result.now c.in_ok-list.list.items c.in-Some.ensures (sym c.named-b.ensures)
    (c.is_table_at.ensures c.if-not-is_table_at.false) c.requires c.learn.ensures c.at.ensures.known c.at.ensures.base c.in_ok-list.ensures
    (subst (AllByRecursion (IsEntryReady bs n c.at.result.now k r f)) c.as_slice.ensures.value (each yes))) c.all_entries_ready.ensures
