use Rattle.std.proofs.Common.{◌≡◌, ◌∙◌, [], ap, sym}
use Rattle.std.specs.Prelude.{cond}
use Rattle.std.proofs.lemmas.Result.{IfOk-weaker}
use Rattle.setl_rep_bases.specs.Bases.{BasesState, main_bases}
use Rattle.setl_store.specs.Flat.{bases_of, AreUncut}
use Rattle.setl_store.specs.Gained.{no_members}
use Rattle.setl_store.proofs.Gaining.{bases_empty}
use Rattle.setl_store.proofs.Starting.{not_cut}
use Rattle.setl_store.proofs.calls.empty_bases.Goals as goal

pub returns-then-told : goal.returns-then-told
returns-then-told c =
    let fresh = c.instances_are_read.ensures.main in
    IfOk-weaker c.new.result (λ (bs : BasesState). bs ≡ main_bases c.args.count) (λ bs. AreUncut bs × (bases_of bs [] ≡ no_members (cond c.args.told c.args.count 0)))
    (λ bs is. ((λ i. not_cut fresh c.args.count bs i is), bases_empty fresh c.args.count bs is ∙ ap (λ b. no_members (cond b c.args.count 0)) (sym c.if-told.true)))
    c.new.ensures

pub loop-base-init : goal.loop-base-init
loop-base-init c = record {
  none = ap (λ (bs : BasesState). bs.count) c.in_ok-bases.ensures;
  uncut = λ i. not_cut c.instances_are_read.ensures.main 0 c.in_ok-bases.bases i c.in_ok-bases.ensures;
}
