-- Worked programs of the whole language.
use Rattle.std.specs.Prelude.{[], ◌∷◌, codes, Some, None}
use Rattle.setl_value.specs.Datum.{text}
use Rattle.setl_model_runs.specs.Variable.{Own, Bound}
use Rattle.setl_operators_table.specs.declared.Operator.TheVariants.{Negate, Add, Subtract, Divide, Modulo, Power, Abs, Size, Equal, NotEqual, With, Less, In, SetRange, TupleRange, Pow, Npow, Get, Images, FoldAdd, FoldMax}
use Rattle.setl_modes.specs.declared.mode.Form.TheVariants.{Sparse}
use Rattle.setl_modes.specs.Modes.{Integers, Elements, Sets, SingleMaps}
use Rattle.setl_program.specs.declared.kinds.Collection.TheVariants.{OfSet}
use Rattle.setl_program.specs.declared.kinds.Connective.TheVariants.{Or}
use Rattle.setl_program.specs.declared.kinds.Quantifier.TheVariants.{Exists}
use Rattle.setl_program.specs.declared.kinds.Taking.TheVariants.{TakeFirst, TakeLast}
use Rattle.setl_program.specs.Program.{Point, Expr, Literal, Undefined, Name, Connect, Quantified, Call, Eof, Ok, more_iterators, no_condition, only_if, no_argument, rw_argument, no_selector, round_selector, brace_selector, Assign, AssignParts, TakeFrom, Perform, If, For, Fail, Return, Read, no_stmt, Program}
use Rattle.setl_program.specs.Source.{f, i, j, k, n, q, s, t, x, y, z, number, exprs, one, two, enumeration, set_of, tuple_of, pair_of, over, between, assign, put, combine, print, at, alone, lines_from, lines, select_over, with_modes, procedure, rw_parameter}

-- f := {[1,2],[1,3],[2,5]};
-- print(f(1), f{1}, f(2), f{9});
abbrev pub images_of_a_map : Program
images_of_a_map =
    lines (
    assign f (set_of (pair_of 1 2 ∷ pair_of 1 3 ∷ pair_of 2 5 ∷ []))
    ∷ print (two Get (Name f) (number 1) ∷ two Images (Name f) (number 1) ∷ two Get (Name f) (number 2) ∷ two Images (Name f) (number 9) ∷ [])
    ∷ [])

-- print(170141183460469231731687303715884105727 + 1);
abbrev pub too_wide : Program
too_wide = lines (print (two Add (number 170141183460469231731687303715884105727) (number 1) ∷ []) ∷ [])

-- fail;
abbrev pub fail_alone : Program
fail_alone = lines (Fail ∷ [])

-- (for n in [1..5]) print(n); end for;
abbrev pub counting : Program
counting = lines (For (between n (number 1) (number 5)) no_condition (alone 2 (print (Name n ∷ []))) ∷ [])

-- read(x, y, z);
-- print(x, y, z, eof);
abbrev pub reading : Program
reading = lines (Read (x ∷ y ∷ z ∷ []) ∷ print (Name x ∷ Name y ∷ Name z ∷ Eof ∷ []) ∷ [])

-- s := {1,2,3}; n := 0; (for x in s) s less:= x; n +:= 1; end for; print(s, n);
abbrev pub emptied_set : Program
emptied_set =
    lines (
    assign s (enumeration (1 ∷ 2 ∷ 3 ∷ []))
    ∷ assign n (number 0)
    ∷ For (over x (Name s)) no_condition (at 4 (combine Less s (Name x)) (alone 4 (combine Add n (number 1))))
    ∷ print (Name s ∷ Name n ∷ [])
    ∷ [])

-- n := 1; inc(n); print(n); proc inc(rw x); x +:= 1; end proc;
abbrev pub passed_in_and_out : Program
passed_in_and_out = (with_modes (lines_from 2 (assign n (number 1) ∷ Perform (Call 0 (rw_argument n no_argument)) ∷ print (Name n ∷ []) ∷ [])) ((procedure (codes "inc") ((rw_parameter (codes "x")) ∷ []) (alone 5 (combine Add (Own 1 (codes "x")) (number 1)))) ∷ []) [])

-- x := p(); print(x); if x = 1 then fail; end if; proc p(); if ok then return 1; else return 2; end if; end proc;
abbrev pub taken_back : Program
taken_back = (with_modes (lines_from 2 (
    assign x (Call 0 no_argument)
    ∷ print (Name x ∷ [])
    ∷ If (two Equal (Name x) (number 1)) (alone 4 Fail) no_stmt
    ∷ [])) ((procedure (codes "p") [] (alone 5 (If Ok (alone 5 (Return (number 1))) (alone 5 (Return (number 2))))))
    ∷ []) [])

-- s := {1}; x := 1; print({x in s}, {y in s | y = 2});
abbrev pub enumeration_or_former : Program
enumeration_or_former =
    lines (
    assign s (enumeration (1 ∷ []))
    ∷ assign x (number 1)
    ∷ print (
    set_of (two In (Name x) (Name s) ∷ [])
    ∷ select_over OfSet (Bound 1 (codes "y")) (Name s) (two Equal (Name (Bound 1 (codes "y"))) (number 2))
    ∷ [])
    ∷ [])

-- print(-7 div 2, -7 mod 2, 7 mod -2, 2 ** 10);
abbrev pub arithmetic : Program
arithmetic =
    lines (
    print (
    two Divide (one Negate (number 7)) (number 2)
    ∷ two Modulo (one Negate (number 7)) (number 2)
    ∷ two Modulo (number 7) (one Negate (number 2))
    ∷ two Power (number 2) (number 10)
    ∷ [])
    ∷ [])

-- print(+/ [1..4], +/ {}, max/ {3,9,4});
abbrev pub folds : Program
folds =
    lines (
    print (one FoldAdd (two TupleRange (number 1) (number 4)) ∷ one FoldAdd (enumeration []) ∷ one FoldMax (enumeration (3 ∷ 9 ∷ 4 ∷ [])) ∷ [])
    ∷ [])

-- print(pow {1,2}, 2 npow {1,2,3});
abbrev pub subsets : Program
subsets = lines (print (one Pow (enumeration (1 ∷ 2 ∷ [])) ∷ two Npow (number 2) (enumeration (1 ∷ 2 ∷ 3 ∷ [])) ∷ []) ∷ [])

-- x := {1..1000000}; print(#x);
abbrev pub long_range : Program
long_range = lines (assign x (two SetRange (number 1) (number 1000000)) ∷ print (one Size (Name x) ∷ []) ∷ [])

-- s: sparse set(elmt n), where base n: int
-- s := {1}; print(s);
-- s with:= 'a'; print(s);
abbrev pub declared_set : Program
declared_set = (with_modes (at 3 (assign s (enumeration (1 ∷ []))) (at 3 (print (Name s ∷ [])) (at 4 (combine With s (Literal (text (codes "a")))) (alone 4 (print (Name s ∷ [])))))) [] ((s, Sets Sparse (Elements 0 Integers)) ∷ []))

-- f: sparse smap(elmt n) int, where base n: int
-- f := {[1,10]}; f(1) := om; print(f); f(1) := 5; print(f);
-- f{1} := {1,2};
abbrev pub declared_map : Program
declared_map = (with_modes (at 3 (assign f (set_of (pair_of 1 10 ∷ [])))
    (at 3 (put f (number 1) Undefined)
    (at 3 (print (Name f ∷ []))
    (at 3 (put f (number 1) (number 5))
    (at 3 (print (Name f ∷ []))
    (alone 4 (Assign (record { variable = f; selectors = brace_selector (number 1) no_selector }) (enumeration (1 ∷ 2 ∷ []))))))))) [] ((f, SingleMaps Sparse (Elements 0 Integers) Integers) ∷ []))

-- q(k) = j or abs (q(k) - j) = i - k
abbrev is_attacked : Expr
is_attacked =
    Connect Or (two Equal (two Get (Name q) (Name k)) (Name j))
    (two Equal (one Abs (two Subtract (two Get (Name q) (Name k)) (Name j))) (two Subtract (Name i) (Name k)))

-- q := [];
-- (for i in [1..4])
--   if exists j in [1..4] | ok then
--     if exists k in [1..#q] | q(k) = j or abs (q(k) - j) = i - k then fail; end if;
--     q with:= j;
--   else fail;
--   end if;
-- end for;
-- print(q);
abbrev pub queens : Program
queens =
    lines (
    assign q (tuple_of [])
    ∷ For (between i (number 1) (number 4)) no_condition
    (alone 4 (If (Quantified Exists (between j (number 1) (number 4)) Ok)
    (at 5 (If (Quantified Exists (between k (number 1) (one Size (Name q))) is_attacked) (alone 5 Fail) no_stmt)
    (alone 6 (combine With q (Name j))))
    (alone 7 Fail)))
    ∷ print (Name q ∷ [])
    ∷ [])

-- t := [1,om,2]; [x, -, y] := t; z fromb t; n frome t; print(x, y, z, n, t);
abbrev pub taken_apart : Program
taken_apart =
    lines (
    assign t (tuple_of (number 1 ∷ Undefined ∷ number 2 ∷ []))
    ∷ AssignParts (Some x ∷ None ∷ Some y ∷ []) (Name t)
    ∷ TakeFrom TakeFirst z (record { variable = t; selectors = no_selector })
    ∷ TakeFrom TakeLast n (record { variable = t; selectors = no_selector })
    ∷ print (Name x ∷ Name y ∷ Name z ∷ Name n ∷ Name t ∷ [])
    ∷ [])

-- f := {[1,[7]],[2,[8,9]]}; f(2)(4) := 5; (for y = f(x), z in y) print(x, z); end for;
abbrev pub nested_places : Program
nested_places =
    lines (
    assign f (set_of (tuple_of (number 1 ∷ tuple_of (number 7 ∷ []) ∷ []) ∷ tuple_of (number 2 ∷ pair_of 8 9 ∷ []) ∷ []))
    ∷ Assign (record { variable = f; selectors = round_selector (number 2) (round_selector (number 4) no_selector) }) (number 5)
    ∷ For
    (more_iterators (Point y x) (exprs (Name f ∷ [])) (over z (Name y)))
    (only_if (two NotEqual (Name z) (number 8)))
    (alone 4 (print (Name x ∷ Name z ∷ [])))
    ∷ [])

-- s: sparse set(elmt n), where base n: int
-- p(); proc p(); s := 1; print(s); end proc;
abbrev pub undeclared_own : Program
undeclared_own = (with_modes (alone 3 (Perform (Call 0 no_argument))) ((procedure (codes "p") [] (at 4 (assign (Own 1 (codes "s")) (number 1)) (alone 4 (print (Name (Own 1 (codes "s")) ∷ [])))))
    ∷ []) ((s, Sets Sparse (Elements 0 Integers)) ∷ []))
