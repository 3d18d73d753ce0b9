use Rattle.std.proofs.Common.{◌≡◌, ◌∙◌, ◌<◌, ◌+◌, ℕ, List, Bool, map, length, Some, refl, sym, ap, subst, arith}
use Rattle.std.specs.Prelude.{slice_get}
use Rattle.setl_live_reads.specs.declared.node.Access.TheVariants.{Read}
use Rattle.setl_live_reads.specs.declared.node.Node.{Node}
use Rattle.setl_live_reads.specs.Paths.{IsRight}
use Rattle.setl_model_runs.specs.Variable.{Variable, Global}
use Rattle.setl_code.specs.declared.code.Step.{Step}
use Rattle.setl_code.specs.MayRun.{StepsFit, Differ}
use Rattle.setl_code.specs.Plain.{own_variables, plain_body}
use Rattle.setl_code_marked.specs.Marked.{MarksBody}
use Rattle.setl_live.specs.Nodes.{node, handed, AllMarked, MayTake}
use Rattle.setl_live.proofs.Bodies.{own_count, reads_fit, body_marked, steps_fit_still}
use Rattle.setl_live.proofs.marking.mark_body.Goals as goal

pub last_reads-requires-clause-slots : goal.last_reads-requires-clause-slots
last_reads-requires-clause-slots c at x m is reads =
    let same : c.deref.result.now ≡ map node c.args.body.now.steps = c.deref.ensures.value ∙ c.in_ok-nodes.ensures ∙ ap (map node) c.as_slice.ensures in
    let small : x < length c.args.body.now.parameters + length c.args.body.now.names = reads_fit c.requires.fits.0 (length c.args.body.now.parameters + length c.args.body.now.names) c.args.body.now.steps c.requires.fits.1 at x m (ap (λ (ns : List Node). slice_get ns at) (sym same) ∙ is) reads in
    omega (arith, small, c.len-4.ensures, c.len-5.ensures)

pub returns : goal.returns
returns c = record { parameters = refl; names = refl; fits = λ g fit. fits g fit; marked = λ declared vars n differ fit table. marked declared vars n differ fit table }
  where
    fits : (g : ℕ) → StepsFit g (length c.args.body.now.parameters + length c.args.body.now.names) c.args.body.now.steps → StepsFit g (length c.args.body.now.parameters + length c.args.body.now.names) c.from_vec.result
    fits g fit =
        let all : AllMarked c.in_ok-marks.marks.items c.args.refused.now c.args.body.now.steps c.marked_steps.result.items =
        subst (λ (ms : List Bool). AllMarked ms c.args.refused.now c.args.body.now.steps c.marked_steps.result.items) c.deref-3.ensures.value
        (subst (λ (ss : List Step). AllMarked c.deref-3.result.now c.args.refused.now ss c.marked_steps.result.items) (c.into_vec.ensures ∙ c.replace-steps.ensures.value) c.marked_steps.ensures) in
        subst (λ (ss : List Step). StepsFit g (length c.args.body.now.parameters + length c.args.body.now.names) ss) (sym c.from_vec.ensures)
        (steps_fit_still g (length c.args.body.now.parameters + length c.args.body.now.names) c.in_ok-marks.marks.items c.args.refused.now c.args.body.now.steps c.marked_steps.result.items all fit)

    marked : (declared : List Variable) (vars : List (List ℕ)) (n : ℕ) → Differ (own_variables n c.args.body.now.parameters c.args.body.now.names) → StepsFit (length vars) (length c.args.body.now.parameters + length c.args.body.now.names) c.args.body.now.steps → MayTake declared n c.args.body.now c.args.refused.now → MarksBody declared n (plain_body (map Global vars) n c.args.body.now) (plain_body (map Global vars) n (record c.args.body.now { steps = c.from_vec.result }))
    marked declared vars n differ fit table =
        let nodes : c.deref.result.now ≡ map node c.args.body.now.steps = c.deref.ensures.value ∙ c.in_ok-nodes.ensures ∙ ap (map node) c.as_slice.ensures in
        let back : c.deref-2.result.now ≡ handed c.args.body.now.parameters = c.deref-2.ensures.value ∙ c.in_ok-back.ensures ∙ ap handed c.as_slice-2.ensures in
        let right =
        subst (λ (ns : List Node). (at x : ℕ) (m : Node) → slice_get ns at ≡ Some m → m.access ≡ Read x → IsRight ns (handed c.args.body.now.parameters) c.in_ok-marks.marks.items at x) nodes
        (subst (λ (bs : List Bool). (at x : ℕ) (m : Node) → slice_get c.deref.result.now at ≡ Some m → m.access ≡ Read x → IsRight c.deref.result.now bs c.in_ok-marks.marks.items at x) back c.in_ok-marks.ensures.right) in
        let all : AllMarked c.in_ok-marks.marks.items c.args.refused.now c.args.body.now.steps c.marked_steps.result.items =
        subst (λ (ms : List Bool). AllMarked ms c.args.refused.now c.args.body.now.steps c.marked_steps.result.items) c.deref-3.ensures.value
        (subst (λ (ss : List Step). AllMarked c.deref-3.result.now c.args.refused.now ss c.marked_steps.result.items) (c.into_vec.ensures ∙ c.replace-steps.ensures.value) c.marked_steps.ensures) in
        subst (λ (ss : List Step). MarksBody declared n (plain_body (map Global vars) n c.args.body.now) (plain_body (map Global vars) n (record c.args.body.now { steps = ss }))) (sym c.from_vec.ensures)
        (body_marked declared vars n c.args.body.now differ (subst (λ (o : ℕ). StepsFit (length vars) o c.args.body.now.steps) (sym (own_count n c.args.body.now.parameters c.args.body.now.names)) fit) c.args.refused.now table c.in_ok-marks.marks.items right c.marked_steps.result.items all)
