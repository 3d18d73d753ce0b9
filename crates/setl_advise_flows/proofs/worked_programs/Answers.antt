use Rattle.std.proofs.Common.{refl}
use Rattle.setl_advise_flows.proofs.worked_programs.Goals as goal

pub returns-clause-reached : goal.returns-clause-reached
returns-clause-reached c =
    record {
      main = (
        (((tt, (tt, tt)), ((tt, (tt, tt)), ((tt, (tt, tt)), tt))), tt, refl),
        (
          (tt, tt, refl),
          (
            ((tt, tt), tt, refl),
            (
              ((tt, (tt, tt)), ((tt, (refl, refl)), (((tt, (tt, tt)), ((tt, tt, refl), ((((((tt, (tt, tt)), tt), refl, tt), tt, ((tt, tt, refl), tt))), tt)), tt), tt))),
              ((tt, tt), tt),
            ),
          ),
        ),
      );
      procedures = λ f q is. cc;
    }

pub returns-clause-mixed : goal.returns-clause-mixed
returns-clause-mixed c =
    record {
      main = ((refl, tt), (((tt, tt), tt, refl), ((tt, tt, refl), (((tt, tt), tt, refl), ((tt, tt), tt)))));
      procedures = λ f q is. cc;
    }
