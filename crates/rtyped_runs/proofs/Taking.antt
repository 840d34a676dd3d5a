-- What a function takes stands in the first variables of its graph.
use Rattle.std.proofs.Common.{◌≡◌, ℕ, suc, ◌+◌, ◌==◌, ◌||◌, Bool, true, false, List, [], ◌∷◌, length, Option, Some, None, refl, sym, ap, ◌∙◌, subst, arith}
use Rattle.std.specs.Prelude.{slice_get, cond, if◌then◌else◌}
use Rattle.std.proofs.lemmas.Bool.Decides.{nat_tests}
use Rattle.ann_element.specs.declared.element.Element.{Element}
use Rattle.csub_tree.specs.State.{Value}
use Rattle.csub_tree.specs.Statement.{read}
use Rattle.ll_code.specs.declared.program.LlType.TheVariants as type
use Rattle.ll_live.specs.Live.{among}
use Rattle.rpy_tree.specs.Value.{Value as Meant}
use Rattle.flow_meaning.specs.Machine.{look, taken}
use Rattle.rtyper_layout.specs.declared.layout.Layout.{Layout}
use Rattle.rtyper_layout.specs.Types.{type_of, type_seen}
use Rattle.rtyper_data.specs.Finding.{same_type}
use Rattle.rtyper_program.specs.Graphs.{typed_from}
use Rattle.object_laws.specs.Ghost.{Ghost}
use Rattle.object_laws.specs.Values.{Holds, AllHold, End, Next}
use Rattle.run_laws.specs.Points.{Setting, Stand}
use Rattle.conversion_laws.specs.Converted.{Blank, never}
use Rattle.run_laws.proofs.Steps.{taken_named}

same_number : (v : ℕ) → (v == v) ≡ true
same_number v = grind (arith, nat_tests)

equal_is : (u v : ℕ) → (u == v) ≡ true → u ≡ v
equal_is u v h = grind (arith, nat_tests, h)

-- nothing is taken where nothing is given
look_nothing : (inputs : List ℕ) (v : ℕ) (x : Meant) → look (taken inputs []) v ≡ Some x → ⊥
look_nothing [] v x h = absurd (cc)
look_nothing (u ∷ inputs) v x h = by (λ k. look_nothing inputs v x k) (u == v) h
  where
    by : (look (taken inputs []) v ≡ Some x → ⊥) → (b : Bool) → cond b None (look (taken inputs []) v) ≡ Some x → ⊥
    by go true k = absurd (cc)
    by go false k = go k

among_at : (inputs : List ℕ) (v : ℕ) → among v inputs ≡ true → (j : ℕ) × (slice_get inputs j ≡ Some v)
among_at [] v h = absurd (cc)
among_at (u ∷ inputs) v h = by (λ k. among_at inputs v k) (u == v) refl h
  where
    by : (among v inputs ≡ true → (j : ℕ) × (slice_get inputs j ≡ Some v)) → (b : Bool) → (u == v) ≡ b → (b || among v inputs) ≡ true → (j : ℕ) × (slice_get (u ∷ inputs) j ≡ Some v)
    by go true e k = (0, ap Some (equal_is u v e))
    by go false e k = let r = go k in (suc r.0, r.1)

module _ (s : Setting) (f : ℕ) (g : Ghost) (vars : List Value) where
  abbrev Is : ℕ → List ℕ → Type 0
  Is i inputs = (j v : ℕ) → slice_get inputs j ≡ Some v → v ≡ i + j

  abbrev Knows : ℕ → List Element → Type 0
  Knows i params = (j : ℕ) (e : Element) → slice_get params j ≡ Some e → s.element f (i + j) ≡ Some e

  abbrev Has : ℕ → List Value → Type 0
  Has i xs = (j : ℕ) (x : Value) → slice_get xs j ≡ Some x → read vars (i + j) ≡ x

  on_is : (i u : ℕ) (inputs : List ℕ) → Is i (u ∷ inputs) → Is (i + 1) inputs
  on_is i u inputs h j v k = h (suc j) v k ∙ (let z : i + suc j ≡ i + 1 + j = omega arith in z)

  on_knows : (i : ℕ) (e : Element) (params : List Element) → Knows i (e ∷ params) → Knows (i + 1) params
  on_knows i e params h j d k = ap (s.element f) (let z : i + 1 + j ≡ i + suc j = omega arith in z) ∙ h (suc j) d k

  on_has : (i : ℕ) (x : Value) (xs : List Value) → Has i (x ∷ xs) → Has (i + 1) xs
  on_has i x xs h j y k = ap (read vars) (let z : i + 1 + j ≡ i + suc j = omega arith in z) ∙ h (suc j) y k

  bound : (i : ℕ) (inputs : List ℕ) {params : List Element} {xs : List Value} {all : List Meant} → Is i inputs → Knows i params → Has i xs → AllHold s.around.layout s.known g params xs all
      → (v : ℕ) (x : Meant) → look (taken inputs all) v ≡ Some x → Holds s.around.layout s.known g (s.element f v) (read vars v) x
  bound i inputs is knows has End v x h = absurd (look_nothing inputs v x h)
  bound i [] is knows has (Next held rest) v x h = absurd (cc)
  bound i (u ∷ inputs) is knows has (Next {part = part} {parts = parts} {x = y} {xs = ys} {v = value} {vs = values} held rest) v x h =
      by (λ k. bound (i + 1) inputs (on_is i u inputs is) (on_knows i part parts knows) (on_has i y ys has) rest v x k) (u == v) refl h
    where
      at : u ≡ i
      at = is 0 u refl ∙ (let z : i + 0 ≡ i = omega arith in z)

      by : (look (taken inputs values) v ≡ Some x → Holds s.around.layout s.known g (s.element f v) (read vars v) x) → (b : Bool) → (u == v) ≡ b → cond b (Some value) (look (taken inputs values) v) ≡ Some x → Holds s.around.layout s.known g (s.element f v) (read vars v) x
      by go true e k =
          let q : value ≡ x = cc in
          let here : v ≡ i + 0 = sym (equal_is u v e) ∙ at ∙ (let z : i ≡ i + 0 = omega arith in z) in
          subst (λ (n : ℕ). Holds s.around.layout s.known g (s.element f n) (read vars n) x) (sym here)
          (subst (λ (d : Option Element). Holds s.around.layout s.known g d (read vars (i + 0)) x) (sym (knows 0 part refl)) (subst (λ (z : Value). Holds s.around.layout s.known g (Some part) z x) (sym (has 0 y refl)) (subst (λ (z : Meant). Holds s.around.layout s.known g (Some part) y z) q held)))
      by go false e k = go k

  -- of those for which no argument is there, nothing is known
  without : {params : List Element} {xs : List Value} {all : List Meant} (inputs : List ℕ) → ((j v : ℕ) → slice_get inputs j ≡ Some v → slice_get params j ≡ None → type_seen s.around.layout (s.element f v) ≡ type.Void) → AllHold s.around.layout s.known g params xs all
      → (v : ℕ) → among v inputs ≡ true → look (taken inputs all) v ≡ None → type_seen s.around.layout (s.element f v) ≡ type.Void
  without inputs others End v a h = let r = among_at inputs v a in others r.0 v r.1 refl
  without [] others (Next held rest) v a h = absurd (cc)
  without (u ∷ inputs) others (Next {v = value} {vs = values} held rest) v a h = by (λ k m. without inputs (λ j w p q. others (suc j) w p q) rest v k m) (u == v) a h
    where
      by : (among v inputs ≡ true → look (taken inputs values) v ≡ None → type_seen s.around.layout (s.element f v) ≡ type.Void) → (b : Bool) → (b || among v inputs) ≡ true → cond b (Some value) (look (taken inputs values) v) ≡ None → type_seen s.around.layout (s.element f v) ≡ type.Void
      by go true k m = absurd (cc)
      by go false k m = go k m

  pub takes : (inputs : List ℕ) (params : List Element) (xs : List Value) (all : List Meant) → Is 0 inputs → Knows 0 params → Has 0 xs → ((j v : ℕ) → slice_get inputs j ≡ Some v → slice_get params j ≡ None → type_seen s.around.layout (s.element f v) ≡ type.Void)
      → AllHold s.around.layout s.known g params xs all → Stand s g f (taken inputs all) vars
  takes inputs params xs all is knows has others held = record {
    bound = λ v x h free. bound 0 inputs is knows has held v x h;
    blank = λ v a h. subst (λ t. Blank g t (read vars v)) (sym (without inputs others held v (ap (among v) (sym (taken_named inputs all)) ∙ a) h)) (never (read vars v));
  }

-- all parameters have types
pub params_typed : (layout : Layout) (n : ℕ) (params : List Element) → ((j : ℕ) (e : Element) → slice_get params j ≡ Some e → same_type (type_of layout e) type.Void ≡ false) → length (typed_from layout n params) ≡ length params
params_typed layout n [] h = refl
params_typed layout n (e ∷ params) h =
    ap (λ (b : Bool). length (if b then typed_from layout (n + 1) params else n ∷ typed_from layout (n + 1) params)) (h 0 e refl) ∙ ap suc (params_typed layout (n + 1) params (λ j d k. h (suc j) d k))
