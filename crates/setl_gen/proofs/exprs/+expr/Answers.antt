use Rattle.std.proofs.Common.{◌∙◌, List, length, ap, refl, sym, arith}
use Rattle.std.specs.Option.{option_map}
use Rattle.setl_program.specs.declared.expr.Expr.{Expr}
use Rattle.setl_program.specs.declared.expr.Iterator.{Iterator}
use Rattle.setl_program.specs.declared.expr.Argument.{Argument}
use Rattle.setl_program.specs.declared.expr.Expr.TheVariants as ex
use Rattle.setl_program.specs.Program as plain
use Rattle.setl_program.specs.Program.{Connect}
use Rattle.setl_program.specs.Operators.{one as alone, two}
use Rattle.setl_program.specs.code.Plain.{plain_expr, plain_exprs, plain_iterators, plain_binding, plain_arguments, condition_of}
use Rattle.setl_code.specs.Code.{Unless}
use Rattle.setl_code.specs.Piece.{one}
use Rattle.setl_code.specs.Generated as code
use Rattle.setl_gen_emitter.specs.Emitted.{held, here, after}
use Rattle.setl_gen_emitter.specs.EmittedLaws.{done_made, after_nothing, then_made}
use Rattle.setl_gen.proofs.Rounds.{exprs_round, arguments_round, count_is, levels_is, iterator_begun, iterator_headed}
use Rattle.setl_gen.proofs.ExprKinds.{former_is, selection_is, as_kind}
use Rattle.setl_gen.proofs.Constructs.{apply_made, choose_made, former_made, selection_made, quantified_made, call_made}
use Rattle.setl_gen.proofs.Links.{unary_is, binary_is, connect_is, as_link, binary_made, ternary_made, connected, chain_round, links_made}
use Rattle.setl_gen.proofs.exprs.+expr.Goals as goal

pub exprs-loop-e-preserved : goal.exprs-loop-e-preserved
exprs-loop-e-preserved t c =
    exprs_round c.args.line c.args.es.now c.loop-e.e-index c.e-item.result (held c.loop-e.emitter) (held c.expr.new.emitter) c.loop-e-test.true c.e-item.is c.in_ok-expr.ensures
    ∙ c.loop-e.invariant

pub exprs-returns : goal.exprs-returns
exprs-returns t c =
    let f = λ (r : List Expr). code.exprs c.args.line (plain_exprs r) in
    done_made f c.args.es.now c.loop-e.e-index (held c.loop-e.emitter) (after (f c.args.es.now) (held c.args.emitter.now)) c.loop-e-test.false (after_nothing (held c.loop-e.emitter)) c.loop-e.invariant

pub arguments-loop-x-preserved : goal.arguments-loop-x-preserved
arguments-loop-x-preserved t c =
    arguments_round c.args.line c.args.all.now c.loop-x.x-index c.x-item.result (held c.loop-x.emitter) (held c.argument.new.emitter) c.loop-x-test.true c.x-item.is c.in_ok-argument.ensures
    ∙ c.loop-x.invariant

pub arguments-returns : goal.arguments-returns
arguments-returns t c =
    let f = λ (r : List Argument). code.arguments c.args.line (plain_arguments r) in
    done_made f c.args.all.now c.loop-x.x-index (held c.loop-x.emitter) (after (f c.args.all.now) (held c.args.emitter.now)) c.loop-x-test.false (after_nothing (held c.loop-x.emitter)) c.loop-x.invariant

pub apply-returns : goal.apply-returns
apply-returns t c =
    apply_made c.args.line c.args.o (plain_exprs c.args.es.now) c.in_ok-count.count (held c.args.emitter.now) (held c.exprs.new.emitter) (held c.put.new.self)
    c.in_ok-exprs.ensures (c.in_ok-count.ensures ∙ count_is c.args.es.now) c.in_ok-put.ensures

pub call-returns : goal.call-returns
call-returns t c =
    call_made c.args.line c.args.f c.in_ok-body.body (plain_arguments c.args.all.now) (held c.args.emitter.now) (held c.arguments.new.emitter) (held c.put.new.self) (held c.store_set.new.emitter)
    c.in_ok-arguments.ensures (omega (arith, c.in_ok-body.ensures)) c.in_ok-put.ensures c.in_ok-store_set.ensures

pub condition-returns-in-None : goal.condition-returns-in-None
condition-returns-in-None t c =
    let s = held c.args.emitter.now in
    sym (after_nothing s) ∙ ap (λ o. after (code.condition c.args.line (condition_of (option_map plain_expr o)) c.args.back) s) (sym c.in-None.is)

pub tested-returns : goal.tested-returns
tested-returns t c =
    then_made (code.expr c.args.line (plain_expr c.args.c.now)) (one c.args.line (Unless c.args.back)) (held c.args.emitter.now) (held c.expr.new.emitter) (held c.put.new.self) c.in_ok-expr.ensures c.in_ok-put.ensures

pub links-loop-l-preserved : goal.links-loop-l-preserved
links-loop-l-preserved t c = λ u g.
    c.loop-l.invariant u
    (chain_round c.args.line c.args.ls.now c.loop-l.l-index c.l-item.result (held c.loop-l.emitter) (held c.link.new.emitter) c.loop-l-test.true c.l-item.is c.in_ok-link.ensures u g)

pub links-returns : goal.links-returns
links-returns t c = links_made c.args.line c.args.ls.now c.loop-l.l-index (held c.args.emitter.now) (held c.loop-l.emitter) c.loop-l-test.false c.loop-l.invariant

pub chain-returns : goal.chain-returns
chain-returns t c = c.in_ok-links.ensures (plain_expr c.args.first.now) (held c.args.emitter.now) c.in_ok-expr.ensures

pub link-returns-in-Unary : goal.link-returns-in-Unary
link-returns-in-Unary t c =
    as_link c.args.line c.args.l.now (alone c.in-Unary.o) (held c.args.emitter.now) (held c.unary.new.emitter) (unary_is c.args.l.now c.in-Unary.o c.in-Unary.is) c.unary.result c.unary.ensures

pub link-returns-in-Binary : goal.link-returns-in-Binary
link-returns-in-Binary t c =
    let o = c.in-Binary.o in
    let y = c.in-Binary.x in
    as_link c.args.line c.args.l.now (λ e. two o e (plain_expr y)) (held c.args.emitter.now) (held c.binary.new.emitter)
    (binary_is c.args.l.now o y c.in-Binary.is) c.binary.result c.binary.ensures

pub link-returns-in_ok-put-in-Ternary : goal.link-returns-in_ok-put-in-Ternary
link-returns-in_ok-put-in-Ternary t c =
    ternary_made c.args.line c.args.l.now c.in-Ternary.o c.in-Ternary.x c.in-Ternary.y c.get.result.now c.get-in-Ternary.result.now (held c.args.emitter.now) (held c.expr.new.emitter) (held c.expr-in-Ternary.new.emitter) (held c.put.new.self)
    c.in-Ternary.is c.get.ensures c.get-in-Ternary.ensures c.in_ok-expr-in-Ternary.ensures c.in_ok-expr-in-Ternary-2.ensures c.in_ok-put-in-Ternary.ensures

pub link-returns-in-Connect : goal.link-returns-in-Connect
link-returns-in-Connect t c =
    let k = c.in-Connect.connective in
    let y = c.get-in-Connect.result.now in
    as_link c.args.line c.args.l.now (λ e. Connect k e (plain_expr y)) (held c.args.emitter.now) (held c.connect.new.emitter)
    (connect_is c.args.l.now k c.in-Connect.x y c.in-Connect.is c.get-in-Connect.ensures) c.connect.result c.connect.ensures

pub binary-returns : goal.binary-returns
binary-returns t c =
    binary_made c.args.line c.args.o (plain_expr c.args.x.now) (held c.args.emitter.now) (held c.expr.new.emitter) (held c.put.new.self) c.in_ok-expr.ensures c.in_ok-put.ensures

pub connect-returns : goal.connect-returns
connect-returns t c =
    let s = held c.args.emitter.now in
    let s3 = held c.put.new.self in
    connected c.args.line c.args.connective (plain_expr c.args.x.now) c.in_ok-test.test (here s3) s (held c.step.new.self) (held c.expr.new.emitter) s3 (held c.decide_here.new.self)
    c.in_ok-test.ensures.place c.in_ok-test.ensures.code c.in_ok-expr.ensures c.in_ok-put.ensures refl c.in_ok-decide_here.ensures

pub choose-returns : goal.choose-returns
choose-returns t c =
    let s4 = held c.step-2.new.self in
    let s6 = held c.expr-3.new.emitter in
    choose_made c.args.line (plain_expr c.args.t.now) (plain_expr c.args.a.now) (plain_expr c.args.b.now) c.in_ok-test.test c.in_ok-over.over (here s4) (here s6)
    (held c.args.emitter.now) (held c.expr.new.emitter) (held c.step.new.self) (held c.expr-2.new.emitter) s4 (held c.unless_here.new.self) s6 (held c.jump_here.new.self)
    c.in_ok-expr.ensures c.in_ok-test.ensures.place c.in_ok-test.ensures.code c.in_ok-expr-2.ensures c.in_ok-over.ensures.place c.in_ok-over.ensures.code refl c.in_ok-unless_here.ensures c.in_ok-expr-3.ensures refl c.in_ok-jump_here.ensures

pub former-returns : goal.former-returns
former-returns t c =
    former_made c.args.line c.args.collection (plain_expr c.args.e.now) (plain_iterators c.args.is.now) (condition_of (option_map plain_expr c.args.t.now)) c.in_ok-first.first c.in_ok-first.innermost (length c.args.is.now)
    (held c.args.emitter.now) (held c.put.new.self) (held c.iterators.new.emitter) (held c.condition.new.emitter) (held c.expr.new.emitter) (held c.add_and_go_on.new.emitter) (held c.next_here.new.self)
    c.in_ok-put.ensures c.in_ok-first.ensures c.in_ok-condition.ensures c.in_ok-expr.ensures (levels_is c.args.is.now) c.in_ok-add_and_go_on.ensures c.in_ok-next_here.ensures

pub selection-returns : goal.selection-returns
selection-returns t c =
    selection_made c.args.line c.args.collection (plain_binding c.args.b.now) (plain_exprs c.args.es.now) (plain_expr c.args.c.now) (length c.args.es.now) c.in_ok-next.next
    (held c.args.emitter.now) (held c.put.new.self) (held c.exprs.new.emitter) (held c.begin_selection.new.emitter) (held c.expr.new.emitter) (held c.keep_or_drop.new.emitter) (held c.next_here.new.self)
    c.in_ok-put.ensures c.in_ok-exprs.ensures (count_is c.args.es.now) c.in_ok-next.ensures.place c.in_ok-next.ensures.code c.in_ok-expr.ensures c.in_ok-keep_or_drop.ensures c.in_ok-next_here.ensures

pub quantified-returns : goal.quantified-returns
quantified-returns t c =
    quantified_made c.args.line c.args.quantifier (plain_iterators c.args.is.now) (plain_expr c.args.c.now) c.enter-outer.result c.leave-inner.result c.in_ok-first.first c.in_ok-first.innermost (length c.args.is.now)
    (held c.args.emitter.now) (held c.enter-outer.new.self) (held c.iterators.new.emitter) (held c.expr.new.emitter) (held c.leave_decided.new.emitter) (held c.next_here.new.self) (held c.leave-inner.new.self) (held c.end_undecided.new.emitter)
    c.enter-outer.ensures.outer c.enter-outer.ensures.rest c.in_ok-first.ensures c.in_ok-expr.ensures (levels_is c.args.is.now) c.in_ok-leave_decided.ensures c.in_ok-next_here.ensures c.leave-inner.ensures.inner c.leave-inner.ensures.rest c.in_ok-end_undecided.ensures

pub expr-returns-in-Former : goal.expr-returns-in-Former
expr-returns-in-Former t c =
    let v : Expr = c.get-in-Former.result.now in
    let r : List Iterator = c.as_slice-in-Former.result.now in
    as_kind c.args.line c.args.e.now (plain.Former c.in-Former.collection (plain_expr v) (plain_iterators r) (condition_of (option_map plain_expr c.in-Former.t))) (held c.args.emitter.now) (held c.former.new.emitter)
    (former_is c.args.e.now c.in-Former.collection v r c.in-Former.t (c.in-Former.is ∙ ap (λ (z : Expr). ex.Former c.in-Former.collection z c.in-Former.is' c.in-Former.t) (sym c.get-in-Former.ensures) ∙ ap (λ (z : List Iterator). ex.Former c.in-Former.collection v z c.in-Former.t) (sym c.as_slice-in-Former.ensures))) c.former.result c.former.ensures

pub expr-returns-in-Selection : goal.expr-returns-in-Selection
expr-returns-in-Selection t c =
    let r : List Expr = c.as_slice-in-Selection.result.now in
    let v : Expr = c.get-in-Selection.result.now in
    as_kind c.args.line c.args.e.now (plain.Selection c.in-Selection.collection (plain_binding c.in-Selection.b) (plain_exprs r) (plain_expr v)) (held c.args.emitter.now) (held c.selection.new.emitter)
    (selection_is c.args.e.now c.in-Selection.collection c.in-Selection.b r v (c.in-Selection.is ∙ ap (λ (z : List Expr). ex.Selection c.in-Selection.collection c.in-Selection.b z c.in-Selection.c) (sym c.as_slice-in-Selection.ensures) ∙ ap (λ (z : Expr). ex.Selection c.in-Selection.collection c.in-Selection.b r z) (sym c.get-in-Selection.ensures))) c.selection.result c.selection.ensures

pub head-returns-clause-place : goal.head-returns-clause-place
head-returns-clause-place t c =
    let s = held c.args.emitter.now in
    let r = held c.begin.new.emitter in
    let e = iterator_begun c.args.line c.in_ok-count.count c.args.i.now c.as_slice.result.now s (held c.exprs.new.emitter) r c.as_slice.ensures c.in_ok-exprs.ensures (c.in_ok-count.ensures ∙ c.len.ensures) c.in_ok-begin.ensures in
    c.in_ok-at.ensures.place ∙ ap here e

pub head-returns-clause-code : goal.head-returns-clause-code
head-returns-clause-code t c =
    let s = held c.args.emitter.now in
    let r = held c.begin.new.emitter in
    let e = iterator_begun c.args.line c.in_ok-count.count c.args.i.now c.as_slice.result.now s (held c.exprs.new.emitter) r c.as_slice.ensures c.in_ok-exprs.ensures (c.in_ok-count.ensures ∙ c.len.ensures) c.in_ok-begin.ensures in
    iterator_headed c.args.line c.args.back c.args.i.now s r (held c.step.new.self) (held c.bind.new.emitter) e c.in_ok-at.ensures.code c.in_ok-bind.ensures
