-- What functions take: by the arities of a program's functions, and by its callees.
use Rattle.std.proofs.Common.{◌≡◌, ◌+◌, ◌≤◌, ℕ, zero, suc, Bool, true, false, List, [], ◌∷◌, ◌++◌, length, map, Option, Some, None, refl, sym, ap, ◌∙◌, arith}
use Rattle.std.specs.Prelude.{◌==◌, ◌&&◌, ◌||◌, not, nat_le, cond, count_by, is_none, if◌then◌else◌}
use Rattle.std.specs.List.{list_all}
use Rattle.std.proofs.lemmas.Bool.{false≢true, eqb-true, eq-eqb, le-leb}
use Rattle.std.proofs.lemmas.List.Sums.{sum_by-cons, count_by-le-length}
use Rattle.std.proofs.lemmas.List.{length-map, map-append}
use Rattle.rpy_tree.specs.declared.syntax.Expr.{Expr}
use Rattle.rpy_tree.specs.declared.syntax.Param.{Param}
use Rattle.rpy_tree.specs.declared.syntax.Function.{Function}
use Rattle.rpy_tree.specs.declared.syntax.Member.{Member, out-Member}
use Rattle.rpy_tree.specs.declared.syntax.Member.TheOpen.{Member-F}
use Rattle.rpy_tree.specs.declared.syntax.ClassDef.{ClassDef, out-ClassDef}
use Rattle.rpy_tree.specs.declared.syntax.Module.{Module}
use Rattle.rpy_tree.specs.declared.program.Const.{Const}
use Rattle.rpy_tree.specs.declared.program.Use.{Use}
use Rattle.rpy_tree.specs.declared.program.Program.{Program}
use Rattle.ann_needs.specs.declared.plan.Callee.{Callee as Planned}
use Rattle.ann_needs.specs.View.{callee_of}
use Rattle.ann_layout.specs.Callees as plan
use Rattle.ann_layout.specs.Callees.{callees}
use Rattle.ann_rules.specs.Program.{Callee}
use Rattle.ann_lattice.specs.Order.{has}
use Rattle.ann_tree.specs.Faults.{takes, callee_at, takes_beside, fit}
use Rattle.rtyper_core.specs.Arity as code
use Rattle.rtyper_core.specs.Call as code_call
use Rattle.rtyper_core.specs.Arity.{arities, arity_at}
use Rattle.rtyper_core.specs.declared.arity.Arity.{Arity}

abbrev pub arity_of : Planned → Arity
arity_of c = record { params = length c.defaults; required = count_by is_none c.defaults; star = c.star }

-- ---- the functions of a program, in the same order

module _ (uses : List Use) where
  module _ (first : ℕ) where
    none_is : (o : Option Expr) → is_none o ≡ is_none (plan.default_in uses first o)
    none_is None = refl
    none_is (Some e) = refl

    required_is : (ps : List Param) → code.required ps ≡ count_by is_none (map (plan.default uses first) ps)
    required_is [] = refl
    required_is (p ∷ ps) =
        sum_by-cons (λ (x : Param). cond (is_none x.default) 1 0) p ps
        ∙ ((λ j. cond (none_is p.default j) 1 0 + required_is ps j) ∙ sym (sum_by-cons (λ (c : Option Const). cond (is_none c) 1 0) (plan.default uses first p) (map (plan.default uses first) ps)))

    function_is : (f : Function) → code.arity f ≡ arity_of (plan.callee uses first f)
    function_is f = λ j. record { params = sym (length-map f.params (plan.default uses first)) j; required = required_is f.params j; star = f.star }

    method_is : (m : Member-F Member ClassDef) (cs : List Planned) → code.with_method m (map arity_of cs) ≡ map arity_of (plan.with_method uses first m cs)
    method_is (Member-F.Def f) cs = ap (λ a. map arity_of cs ++ a ∷ []) (function_is f) ∙ sym (map-append arity_of cs (plan.callee uses first f ∷ []))
    method_is _ cs = refl

    methods_are : (ms : List Member) (cs : List Planned) → code.with_methods ms (map arity_of cs) ≡ map arity_of (plan.with_methods uses first ms cs)
    methods_are [] cs = refl
    methods_are (m ∷ ms) cs = ap (code.with_methods ms) (method_is (out-Member m) cs) ∙ methods_are ms (plan.with_method uses first (out-Member m) cs)

    member_is : (m : Member-F Member ClassDef) (cs : List Planned) → code.with_member m (map arity_of cs) ≡ map arity_of (plan.with_member uses first m cs)
    member_is (Member-F.Class class) cs = methods_are (out-ClassDef class).members cs
    member_is (Member-F.Def f) cs = method_is (Member-F.Def f) cs
    member_is _ cs = refl

    members_are : (ms : List Member) (cs : List Planned) → code.with_members ms (map arity_of cs) ≡ map arity_of (plan.with_members uses first ms cs)
    members_are [] cs = refl
    members_are (m ∷ ms) cs = ap (code.with_members ms) (member_is (out-Member m) cs) ∙ members_are ms (plan.with_member uses first (out-Member m) cs)

  modules_are : (first : ℕ) (ms : List Module) (cs : List Planned) → code.with_modules ms (map arity_of cs) ≡ map arity_of (plan.with_modules uses first ms cs)
  modules_are first [] cs = refl
  modules_are first (m ∷ ms) cs = ap (code.with_modules ms) (members_are first m.members cs) ∙ modules_are (first + m.nodes) ms (plan.with_members uses first m.members cs)

arities_are : (p : Program) → arities p.modules ≡ map arity_of (callees p)
arities_are p = modules_are p.uses 0 p.modules []

-- ---- one function

abbrev taken_by : Callee → Arity
taken_by c = record { params = length c.defaults; required = count_by is_none c.defaults; star = c.star }

pub arity_is : (p : Program) (f : ℕ) → arity_at (arities p.modules) f ≡ taken_by (callee_at (map callee_of (callees p)) f)
arity_is p f = ap (λ all. arity_at all f) (arities_are p) ∙ found (callees p) f
  where
    found : (cs : List Planned) (f : ℕ) → arity_at (map arity_of cs) f ≡ taken_by (callee_at (map callee_of cs) f)
    found [] f = refl
    found (c ∷ cs) zero = refl
    found (c ∷ cs) (suc f) = found cs f

-- ---- whether functions take their arguments

required_fits : (l : List (Option Const)) → count_by is_none l ≤ length l
required_fits l = count_by-le-length is_none l

and_assoc : (a b c : Bool) → ((a && b) && c) ≡ (a && (b && c))
and_assoc true b c = refl
and_assoc false b c = refl

pub takes_is : (p : Program) (f n : ℕ) → code_call.takes (arity_at (arities p.modules) f) n ≡ takes (callee_at (map callee_of (callees p)) f) n
takes_is p f n =
    let c = callee_at (map callee_of (callees p)) f in
    ap (λ a. code_call.takes a n) (arity_is p f) ∙ and_assoc (not c.star) (nat_le (count_by is_none c.defaults) n) (nat_le n (length c.defaults))

-- ---- lists of functions

-- none stands there twice
abbrev pub Distinct : List ℕ → Type 0
Distinct [] = Unit {0}
Distinct (f ∷ fs) = (has fs f ≡ false) × Distinct fs

pub among_is : (fs : List ℕ) (f : ℕ) → code_call.is_among fs f ≡ has fs f
among_is [] f = refl
among_is (g ∷ gs) f = by (g == f) (among_is gs f)
  where
    by : (c : Bool) → code_call.is_among gs f ≡ has gs f → (if c then true else code_call.is_among gs f) ≡ (c || has gs f)
    by true e = refl
    by false e = e

not_self : (f g h : ℕ) (rest : Bool) → (g == f) ≡ false → ((f == h) && ((g == h) && rest)) ≡ false
not_self f g h rest differ = by (f == h) refl
  where
    by : (c : Bool) → (f == h) ≡ c → (c && ((g == h) && rest)) ≡ false
    by true e = ap (λ i. (g == i) && rest) (sym (eqb-true f h e)) ∙ ap (λ b. b && rest) differ
    by false e = refl

-- ---- whether functions take their arguments

module _ (p : Program) (n : ℕ) where
  abbrev A : List Arity
  A = arities p.modules

  abbrev C : List Callee
  C = map callee_of (callees p)

  one_fits : (t l e : Bool) → e ≡ true → ((t && (l || (e && true))) && true) ≡ t
  one_fits t l true h = by t l
    where
      by : (t l : Bool) → ((t && (l || true)) && true) ≡ t
      by true true = refl
      by true false = refl
      by false l = refl
  one_fits t l false h = absurd (false≢true h)

  none_after : (t rest : Bool) → ((t && (false || false)) && rest) ≡ false
  none_after true rest = refl
  none_after false rest = refl

  -- one of several: it has as many parameters as there are arguments
  alike_step : (c : Callee) (rest : Bool) (other : Bool) → other ≡ false
      → (if c.star || not (length c.defaults == n) then false else rest) ≡ ((takes c n && ((length c.defaults == n) || other)) && rest)
  alike_step c rest true h = absurd (false≢true (sym h))
  alike_step c rest false h = by_star c.star (length c.defaults == n) refl
    where
      by_star : (star e : Bool) → (length c.defaults == n) ≡ e
          → (if star || not e then false else rest) ≡ (((not star && (nat_le (count_by is_none c.defaults) n && nat_le n (length c.defaults))) && (e || false)) && rest)
      by_star true e is = refl
      by_star false false is = sym (none_after (nat_le (count_by is_none c.defaults) n && nat_le n (length c.defaults)) rest)
      by_star false true is =
          let long : length c.defaults ≡ n = eqb-true (length c.defaults) n is in
          let le = required_fits c.defaults in
          sym (λ j. ((le-leb (count_by is_none c.defaults) n (omega (arith, long, le)) j && le-leb n (length c.defaults) (omega (arith, long)) j) && true) && rest)

  alike_is : (all fs : List ℕ) → ((h : ℕ) → list_all (λ g. g == h) all ≡ false) → code_call.take_alike A fs n ≡ list_all (λ f. takes_beside C all n f) fs
  alike_is all [] several = refl
  alike_is all (f ∷ fs) several =
      let c = callee_at C f in
      (λ j. if (arity_is p f j).star || not ((arity_is p f j).params == n) then false else code_call.take_alike A fs n)
      ∙ (alike_step c (code_call.take_alike A fs n) (list_all (λ g. g == f) all) (several f) ∙ ap (λ r. takes_beside C all n f && r) (alike_is all fs several))

  pub fit_is : (fs : List ℕ) → Distinct fs → code_call.fit A fs n ≡ fit C fs n
  fit_is [] h = refl
  fit_is (f ∷ []) h = takes_is p f n ∙ sym (one_fits (takes (callee_at C f) n) (length (callee_at C f).defaults == n) (f == f) (eq-eqb f f refl))
  fit_is (f ∷ g ∷ fs) h = alike_is (f ∷ g ∷ fs) (f ∷ g ∷ fs) (λ i. not_self f g i (list_all (λ j. j == i) fs) (first (g == f) (has fs f) h.0))
    where
      first : (b c : Bool) → (b || c) ≡ false → b ≡ false
      first true c e = e
      first false c e = refl
