-- The tables of a program tell of it.
use Rattle.std.proofs.Common.{◌≡◌, ℕ, ℤ, pos, zero, suc, ◌+◌, ◌-◌, ◌==◌, ◌<◌, ◌≤◌, ◌^◌, Bool, true, false, List, [], ◌∷◌, map, max, Option, Some, None, slice_get, refl, sym, ap, ◌∙◌, arith}
use Rattle.std.specs.Prelude.{unwrap_or, if◌then◌else◌}
use Rattle.rpy_tree.specs.declared.program.ClauseInfo.{ClauseInfo}
use Rattle.rpy_tree.specs.declared.program.Program.{Program}
use Rattle.rpy_tree.specs.declared.program.Use.TheVariants as use_of
use Rattle.rpy_tree.specs.Value.{Value, Object}
use Rattle.rpy_tree.specs.declared.program.Const.{Const, out-Const, roll-out-Const, fold-roll-Const, map-Const}
use Rattle.rpy_tree.specs.declared.program.Const.TheOpen.{Const-F}
use Rattle.rpy_tree.specs.declared.program.Const.TheViews.{outs-None}
use Rattle.rpy_tree.specs.declared.program.Const.TheVariants as const
use Rattle.rpy_tree.specs.declared.program.Use.{Use}
use Rattle.rpy_meaning.specs.Operations.{constant, constant_step}
use Rattle.rpy_meaning.specs.Resolved as meaning
use Rattle.rpy_meaning.specs.Resolved.{site_from, walk_from}
use Rattle.resolved_laws.specs.Meant.{further_of, clause_at, constant_in}
use Rattle.resolver_names.specs.Forms.{word_in, step_in}
use Rattle.resolver_names.specs.declared.index.Index.{Index}
use Rattle.resolver_names.specs.declared.names.Names.{Names}
use Rattle.resolver_names.specs.Tables.{put_sites, put_walks, put_clauses, known_methods, words_onto, classes_onto}
use Rattle.resolver_names.specs.Told.{IsTold, Knows, look, has, place_from, the_names}
use Rattle.resolver_names.proofs.Looking.{sites_look, walks_look, clauses_look}
use Rattle.resolver_names.proofs.Words.{methods_told}

at_most : (a : ℕ) → max 0 a ≡ a
at_most a = omega arith

pub told : (p : Program) (index : Index)
    → index.sites ≡ put_sites 0 p.sites [] → index.walks ≡ put_walks 0 p.sites [] → index.clauses ≡ put_clauses 0 p.clauses []
    → index.methods ≡ classes_onto p.classes (words_onto known_methods [] []) → index.nothing ≡ use_of.Nothing
    → IsTold p index
told p index s w c m nothing = record {
  sites = λ n. ap (λ t. look t n) s ∙ sites_look p (further_of p) 0 p.sites [] n;
  walks = λ n. ap (λ t. unwrap_or (look t n) 0) w ∙ walks_look p (further_of p) 0 p.sites [] n ∙ at_most (walk_from p (further_of p) 0 p.sites n);
  clauses = λ n. ap (λ t. look t n) c ∙ clauses_look 0 p.clauses [] n;
  methods = λ name. ap (λ t. has t name) m ∙ methods_told p (further_of p) name;
  nothing = nothing;
}

-- ---- what is known

pub knows : (names : Names) → IsTold names.program.now names.index.now → names.before < 2 ^ 63 → Knows names
unfolding Knows
knows names t lt = (t, lt)

pub told_of : (names : Names) → Knows names → IsTold names.program.now names.index.now
unfolding Knows
told_of names k = k.0

pub few_before : (names : Names) → Knows names → names.before < 2 ^ 63
unfolding Knows
few_before names k = k.1

module _ (names : Names) (k : Knows names) where
  pub site_is : (n : ℕ) → look names.index.now.sites (names.before + n) ≡ (the_names names).site n
  site_is n = (told_of names k).sites (names.before + n)

  pub walk_is : (n : ℕ) → unwrap_or (look names.index.now.walks (names.before + n)) 0 ≡ (the_names names).walk n
  walk_is n = (told_of names k).walks (names.before + n)

  pub method_is : (name : List ℕ) → has names.index.now.methods name ≡ (the_names names).is_method name
  method_is name = (told_of names k).methods name

  pub nothing_is : names.index.now.nothing ≡ use_of.Nothing
  nothing_is = (told_of names k).nothing

-- ---- the clause at a place

place_none : (i : ℕ) (cs : List ClauseInfo) (n : ℕ) → place_from i cs n ≡ None → clause_at cs n ≡ None
place_none i [] n e = refl
place_none i (c ∷ cs) n e = by (c.node == n) (place_none (suc i) cs n) e
  where
    by : (b : Bool) → (place_from (suc i) cs n ≡ None → clause_at cs n ≡ None) → (if b then Some i else place_from (suc i) cs n) ≡ None → (if b then Some c else clause_at cs n) ≡ None
    by true on e = absurd cc
    by false on e = on e

place_some : (i k : ℕ) (cs : List ClauseInfo) (n : ℕ) → place_from i cs n ≡ Some k → (i ≤ k) × (slice_get cs (k - i) ≡ clause_at cs n)
place_some i k [] n e = absurd cc
place_some i k (c ∷ cs) n e = by (c.node == n) (place_some (suc i) k cs n) e
  where
    by : (b : Bool) → (place_from (suc i) cs n ≡ Some k → (suc i ≤ k) × (slice_get cs (k - suc i) ≡ clause_at cs n)) → (if b then Some i else place_from (suc i) cs n) ≡ Some k → (i ≤ k) × (slice_get (c ∷ cs) (k - i) ≡ (if b then Some c else clause_at cs n))
    by true on e =
        let f : i ≡ k = cc in
        let g : k - i ≡ 0 = omega (arith, f) in
        (omega (arith, f), ap (slice_get (c ∷ cs)) g)
    by false on e =
        let r = on e in
        let g : k - i ≡ suc (k - suc i) = omega (arith, r.0) in
        (omega (arith, r.0), ap (slice_get (c ∷ cs)) g ∙ r.1)

pub clause_none : (names : Names) → Knows names → (n : ℕ) → look names.index.now.clauses n ≡ None → None ≡ clause_at names.program.now.clauses n
clause_none names k n e = sym (place_none 0 names.program.now.clauses n (sym ((told_of names k).clauses n) ∙ e))

pub clause_some : (names : Names) → Knows names → (n place : ℕ) → look names.index.now.clauses n ≡ Some place → slice_get names.program.now.clauses place ≡ clause_at names.program.now.clauses n
clause_some names k n place e =
    let z : place ≡ place - 0 = omega arith in
    ap (slice_get names.program.now.clauses) z ∙ (place_some 0 place names.program.now.clauses n (sym ((told_of names k).clauses n) ∙ e)).1

-- ---- the step of a range

module _ (p : Program) (names : meaning.Names) where
  abbrev sites : List (Option Object)
  sites = map (meaning.empty_at p (further_of p)) p.sites

  word_same : (x : Const-F Const) → word_in x ≡ meaning.step_of names (constant_step sites (map-Const Const Value (constant sites) x))
  word_same (Const-F.Word z) = refl
  word_same (Const-F.Bool b) = refl
  word_same (Const-F.Str text) = refl
  word_same Const-F.None = refl
  word_same (Const-F.Function f) = refl
  word_same (Const-F.Tuple vs) = refl
  word_same (Const-F.List s) = refl
  word_same (Const-F.Dict s) = refl

  value_same : (c : Const) → word_in (out-Const c) ≡ meaning.step_of names (meaning.value_in p (further_of p) c)
  value_same c =
      word_same (out-Const c)
      ∙ ap (meaning.step_of names) (sym (fold-roll-Const Value (constant_step sites) (out-Const c)))
      ∙ ap (λ (d : Const). meaning.step_of names (constant sites d)) (roll-out-Const c)

  nothing_same : pos 1 ≡ meaning.step_of names (meaning.value_in p (further_of p) const.None)
  nothing_same = ap word_in (sym outs-None) ∙ value_same const.None

  pub step_same : (o : Option Use) → step_in (unwrap_or o use_of.Nothing) ≡ meaning.step_of names (meaning.value_in p (further_of p) (constant_in o))
  step_same None = nothing_same
  step_same (Some use_of.Nothing) = nothing_same
  step_same (Some (use_of.Local i)) = nothing_same
  step_same (Some (use_of.Function f)) = nothing_same
  step_same (Some (use_of.Class c)) = nothing_same
  step_same (Some (use_of.Value c)) = value_same c
  step_same (Some (use_of.Module m)) = nothing_same
  step_same (Some (use_of.Builtin b)) = nothing_same

pub step_is : (names : Names) (n : ℕ) → step_in ((the_names names).meant n) ≡ meaning.step_of (the_names names) ((the_names names).constant n)
step_is names n = step_same names.program.now (the_names names) (slice_get names.program.now.uses (names.before + n))
