-- A look at a condition that changes a flow.
use Rattle.std.proofs.Common.{◌≡◌, sym, subst, arith, ℕ, ◌<◌, List, true, length}
use Rattle.std.proofs.Math.ListN.{get_or}
use Rattle.setl_advise_flows.specs.Flow.{join}
use Rattle.setl_advise_flows.specs.Expressions.{Flows}
use Rattle.setl_advise_conditions.specs.Conditions.{target_flow, term_flow}
use Rattle.setl_advise_conditions.specs.Grown.{Raised, raised_by}
use Rattle.setl_advise_conditions.specs.Rank.{rank, room}
use Rattle.setl_advise_gathering.specs.declared.condition.Condition.{Condition as Gathered}
use Rattle.setl_advise_gathering.specs.code.Plain.{listed, plain_condition}
use Rattle.setl_advise_solving.specs.Worked.{Worked}
use Rattle.setl_advise_solving.proofs.Rooms.{raise_takes_room}
use Rattle.setl_advise_solving.proofs.Rounds.{among_at}

pub rose : (cs : List Gathered) (k : ℕ) (c : Gathered) (s u : Flows) → k < length cs → c ≡ get_or cs k c → u ≡ raised_by s (plain_condition c) → rank 3 (target_flow s (plain_condition c).target) < rank 3 (join (term_flow s (plain_condition c).term) (target_flow s (plain_condition c).target)) → Worked (listed cs) true s u
rose cs k c s u within is raised more =
    let among = among_at cs k c within is in
    let taken : room (listed cs) (raised_by s (plain_condition c)) < room (listed cs) s = raise_takes_room (listed cs) s (plain_condition c) (term_flow s (plain_condition c).term) among more in
    subst (λ u. Worked (listed cs) true s u) (sym raised)
    (record {
      grown = λ g. Raised s (plain_condition c) g among;
      less = λ e. taken;
      no_more = omega (arith, taken);
    })
