-- Variables and what stands in them.
use Rattle.std.proofs.Common.{◌≡◌, ℕ, Bool, true, false, List, [], ◌∷◌, ◌++◌, Option, Some, None, refl, ap, sym, subst, ◌∙◌}
use Rattle.std.specs.Prelude.{◌==◌, ◌||◌, cond, map}
use Rattle.std.proofs.lemmas.Bool.{eqb-true}
use Rattle.rpy_tree.specs.Value.{Value}
use Rattle.rpy_meaning.specs.Tree.{Program}
use Rattle.flow_meaning.specs.Machine.{Bound, look, and_value, values_of, passed, taken}
use Rattle.ann_lattice.specs.Assign.{Assignment}
use Rattle.ann_lattice.specs.Order.{has}
use Rattle.ann_rules.specs.Program.{Whole}
use Rattle.ann_rules.specs.Rules.{value, may_be_unbound}
use Rattle.sound_values.specs.Values.{Sort, Keeps}
use Rattle.sound_values.specs.Heaps.{IsOf, AreOf}
use Rattle.sound_values.proofs.Growing.{grows}
use Rattle.sound_rows.proofs.Tools.{no, yes}
use Rattle.sound_runs.specs.Graphs.{IsRead, AreRead}
use Rattle.sound_runs.specs.States.{names, BoundIs, EnvIs}

pub names_append : (env : List Bound) (b : Bound) → names (env ++ b ∷ []) ≡ names env ++ b.variable ∷ []
names_append [] b = refl
names_append (c ∷ env) b = ap (λ vs. c.variable ∷ vs) (names_append env b)

pub names_passed : (env : List Bound) (inputs vs : List ℕ) → names (passed env inputs vs) ≡ inputs
names_passed env [] vs = refl
names_passed env (input ∷ inputs) [] = ap (λ vs. input ∷ vs) (names_passed env inputs [])
names_passed env (input ∷ inputs) (v ∷ vs) = ap (λ us. input ∷ us) (names_passed env inputs vs)

pub names_taken : (inputs : List ℕ) (vs : List Value) → names (taken inputs vs) ≡ inputs
names_taken [] vs = refl
names_taken (input ∷ inputs) [] = ap (λ vs. input ∷ vs) (names_taken inputs [])
names_taken (input ∷ inputs) (v ∷ vs) = ap (λ us. input ∷ us) (names_taken inputs vs)

module _ (p : Whole) (a : Assignment) (q : Program) (sorts : List Sort) (g : ℕ) where
  pub look_is : (env : List Bound) (v : ℕ) → EnvIs p a q sorts g env → has (names env) v ≡ true → BoundIs p a q sorts g v (look env v)
  look_is [] v h e = absurd (no e)
  look_is (b ∷ env) v h e = by (b.variable == v) refl e (λ i. look_is env v h.1 i)
    where
      by : (c : Bool) → (b.variable == v) ≡ c → (c || has (names env) v) ≡ true → (has (names env) v ≡ true → BoundIs p a q sorts g v (look env v)) → BoundIs p a q sorts g v (cond c b.value (look env v))
      by true f i go = subst (λ x. BoundIs p a q sorts g x b.value) (eqb-true b.variable v f) h.0
      by false f i go = go i

  pub record Bounded (env : List Bound) (v : ℕ) : Type 0 where
    pub bound : Value
    pub there : look env v ≡ Some bound
    pub is : IsOf p a sorts (value p a g v) bound

  bounded_by : (env : List Bound) (v : ℕ) (o : Option Value) → look env v ≡ o → BoundIs p a q sorts g v o → may_be_unbound p a g v ≡ false → Bounded env v
  bounded_by env v None e h f = absurd (yes (sym h ∙ f))
  bounded_by env v (Some u) e h f = record { bound = u; there = e; is = h }

  -- a variable that is read is bound
  pub read_is : (env : List Bound) (v : ℕ) → EnvIs p a q sorts g env → IsRead p a g (names env) v → Bounded env v
  read_is env v h r = bounded_by env v (look env v) refl (look_is env v h r.0) r.1

  pub record Operands (env : List Bound) (vs : List ℕ) : Type 0 where
    pub values : List Value
    pub there : values_of env vs ≡ Some values
    pub are : AreOf p a sorts (map (value p a g) vs) values

  pub operands : (env : List Bound) (vs : List ℕ) → EnvIs p a q sorts g env → AreRead p a g (names env) vs → Operands env vs
  operands env [] h r = record { values = []; there = refl; are = tt }
  operands env (v ∷ vs) h r =
      let b = read_is env v h r.0 in
      let bs = operands env vs h r.1 in
      record {
        values = b.bound ∷ bs.values;
        there = subst (λ o. and_value o (values_of env vs) ≡ Some (b.bound ∷ bs.values)) (sym b.there) (subst (λ o. and_value (Some b.bound) o ≡ Some (b.bound ∷ bs.values)) (sym bs.there) refl);
        are = (b.is, bs.are);
      }

  pub env_append : (env : List Bound) (b : Bound) → EnvIs p a q sorts g env → BoundIs p a q sorts g b.variable b.value → EnvIs p a q sorts g (env ++ b ∷ [])
  env_append [] b h i = (i, tt)
  env_append (c ∷ env) b h i = (h.0, env_append env b h.1 i)

module _ (p : Whole) (a : Assignment) (q : Program) (sorts later : List Sort) (keeps : Keeps sorts later) (g : ℕ) where
  bound_grows : (v : ℕ) (o : Option Value) → BoundIs p a q sorts g v o → BoundIs p a q later g v o
  bound_grows v None h = h
  bound_grows v (Some u) h = grows p a sorts later keeps (value p a g v) u h

  pub env_grows : (env : List Bound) → EnvIs p a q sorts g env → EnvIs p a q later g env
  env_grows [] h = tt
  env_grows (b ∷ env) h = (bound_grows b.variable b.value h.0, env_grows env h.1)
