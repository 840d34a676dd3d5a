-- Variables of flow graphs, where another is bound.
use Rattle.std.proofs.Common.{◌≡◌, ◌<◌, ◌⊎◌, inl, inr, ℕ, ◌==◌, ◌||◌, true, false, Bool, List, [], ◌∷◌, ◌++◌, Option, Some, None, refl, sym, ap, ◌∙◌, subst, arith}
use Rattle.std.specs.Prelude.{cond}
use Rattle.std.proofs.lemmas.Bool.Decides.{nat_tests}
use Rattle.csub_tree.specs.State.{Value}
use Rattle.csub_tree.specs.Statement.{read}
use Rattle.csub_tree.specs.State.{Core}
use Rattle.ll_code.specs.declared.program.LlType.{LlType}
use Rattle.ll_code.specs.declared.program.LlType.TheVariants as type
use Rattle.ll_live.specs.Live.{among}
use Rattle.rpy_tree.specs.Value.{Value as Meant}
use Rattle.flow_meaning.specs.Machine.{Bound, bind, look, values_of, and_value}
use Rattle.ann_element.specs.declared.element.Element.{Element, fold-roll-Element}
use Rattle.ann_element.specs.declared.element.Element.TheOpen.{Element-F}
use Rattle.ann_element.specs.declared.element.Element.TheVariants as element
use Rattle.rtyper_layout.specs.declared.layout.Layout.{Layout}
use Rattle.rtyper_layout.specs.Types.{type_of, type_seen, type_step}
use Rattle.object_laws.specs.Ghost.{Ghost, Grown}
use Rattle.object_laws.specs.Values.{Holds, Given}
use Rattle.object_laws.proofs.Growing.{holds_grows, use_grows}
use Rattle.conversion_laws.specs.Converted.{Blank, never, word, flag, byte, null, function, text}
use Rattle.run_laws.specs.Points.{Setting, is_conflict, of_conflict, names_of, Stand}
use Rattle.block_laws.specs.Operations.{AreFree, HasNever, HasTypes, IsNever, operands_of}

pub blank_grows : {old new : Ghost} → Grown old new → {t : LlType} {x : Value} → Blank old t x → Blank new t x
blank_grows grown (never x) = never x
blank_grows grown (word z h) = word z h
blank_grows grown (flag b) = flag b
blank_grows grown (byte b h) = byte b h
blank_grows grown (null n) = null n
blank_grows grown function = function
blank_grows grown (text x bytes is) = text x bytes (record { is = use_grows grown x _ is.is; short = is.short; small = is.small })

-- ---- one variable more

pub names_more : (env : List Bound) (b : Bound) → names_of (env ++ b ∷ []) ≡ names_of env ++ b.variable ∷ []
names_more [] b = refl
names_more (a ∷ env) b = ap (λ ns. a.variable ∷ ns) (names_more env b)

pub look_new : (env : List Bound) (v : ℕ) (o : Option Meant) → among v (names_of env) ≡ false → look (env ++ bind v o ∷ []) v ≡ o
look_new [] v o new = ap (λ b. cond b o None) (let same : (v == v) ≡ true = grind (arith, nat_tests) in same)
look_new (a ∷ env) v o new =
    let other : (a.variable == v) ≡ false = first (a.variable == v) (among v (names_of env)) new in
    ap (λ b. cond b a.value (look (env ++ bind v o ∷ []) v)) other ∙ look_new env v o (second (a.variable == v) (among v (names_of env)) new)
  where
    first : (b c : Bool) → (b || c) ≡ false → b ≡ false
    first true c h = h
    first false c h = refl

    second : (b c : Bool) → (b || c) ≡ false → c ≡ false
    second true c h = absurd (cc)
    second false c h = h

pub look_old : (env : List Bound) (r v : ℕ) (o : Option Meant) → (v ≡ r → ⊥) → look (env ++ bind r o ∷ []) v ≡ look env v
look_old [] r v o other = ap (λ b. cond b o None) (let apart : (r == v) ≡ false = grind (arith, nat_tests, other) in apart)
look_old (a ∷ env) r v o other = ap (cond (a.variable == v) a.value) (look_old env r v o other)

pub among_old : (env : List Bound) (b : Bound) (v : ℕ) → (v ≡ b.variable → ⊥) → among v (names_of (env ++ b ∷ [])) ≡ true → among v (names_of env) ≡ true
among_old [] b v other h = absurd (let apart : (b.variable == v) ≡ false = grind (arith, nat_tests, other) in let q : (b.variable == v || false) ≡ true = h in grind (arith, nat_tests, q, other))
among_old (a ∷ env) b v other h = by (λ k. among_old env b v other k) (a.variable == v) h
  where
    by : (among v (names_of (env ++ b ∷ [])) ≡ true → among v (names_of env) ≡ true) → (c : Bool) → (c || among v (names_of (env ++ b ∷ []))) ≡ true → (c || among v (names_of env)) ≡ true
    by go true k = refl
    by go false k = go k

-- ---- where variables are what they were

-- it is this type or another one
pub void_or_not : (t : LlType) → (P : LlType → Type 0) → P type.Void → ((t ≡ type.Void → ⊥) → P t) → P t
void_or_not type.Signed P a b = b (λ h. absurd (cc))
void_or_not type.Void P a b = a
void_or_not type.Char P a b = b (λ h. absurd (cc))
void_or_not type.Bool P a b = b (λ h. absurd (cc))
void_or_not type.Fn P a b = b (λ h. absurd (cc))
void_or_not (type.Ptr n) P a b = b (λ h. absurd (cc))

void_of : (layout : Layout) (e : Element) → of_conflict e ≡ true → type_seen layout (Some e) ≡ type.Void
void_of layout (element.Conflict lists dicts) h = ap (type_of layout) (sym (element.rolls-Conflict lists dicts)) ∙ fold-roll-Element LlType (type_step layout) (Element-F.Conflict lists dicts)
void_of layout other h = absurd (cc)

-- what is in conflict has no type
pub typed_free : (layout : Layout) (seen : Option Element) → (type_seen layout seen ≡ type.Void → ⊥) → is_conflict seen ≡ false
typed_free layout None h = refl
typed_free layout (Some e) h = by (of_conflict e) refl
  where
    by : (b : Bool) → of_conflict e ≡ b → b ≡ false
    by true q = absurd (h (void_of layout e q))
    by false q = refl

module _ (s : Setting) (f below : ℕ) (types : HasTypes s f below) where
  -- a variable more is bound, and the others are what they were
  pub stand_more : {g ghost : Ghost} {env : List Bound} {vars vars2 : List Value} (r : ℕ) (value : Meant) → Grown g ghost → among r (names_of env) ≡ false → Stand s g f env vars
      → ((n : ℕ) → n < below → (n ≡ r → ⊥) → read vars2 n ≡ read vars n) → Holds s.around.layout s.known ghost (s.element f r) (read vars2 r) value → Stand s ghost f (env ++ bind r (Some value) ∷ []) vars2
  stand_more {g = g} {ghost = ghost} {env = env} {vars = vars} {vars2 = vars2} r value grown new stand others held = record { bound = bound; blank = blank }
    where
      bound_at : (v : ℕ) (x : Meant) (b : Bool) → (v == r) ≡ b → look (env ++ bind r (Some value) ∷ []) v ≡ Some x → is_conflict (s.element f v) ≡ false → Holds s.around.layout s.known ghost (s.element f v) (read vars2 v) x
      bound_at v x true e h free =
          let same : v ≡ r = grind (arith, nat_tests, e) in
          let is : look (env ++ bind r (Some value) ∷ []) r ≡ Some value = look_new env r (Some value) new in
          let got : Some value ≡ Some x = sym is ∙ ap (look (env ++ bind r (Some value) ∷ [])) (sym same) ∙ h in
          let q : value ≡ x = cc in
          subst (λ (n : ℕ). Holds s.around.layout s.known ghost (s.element f n) (read vars2 n) x) (sym same) (subst (λ (y : Meant). Holds s.around.layout s.known ghost (s.element f r) (read vars2 r) y) q held)
      bound_at v x false e h free =
          let other : v ≡ r → ⊥ = λ k. absurd (grind (arith, nat_tests, e, k)) in
          let old = stand.bound v x (sym (look_old env r v (Some value) other) ∙ h) free in
          subst (λ (y : Value). Holds s.around.layout s.known ghost (s.element f v) y x) (sym (others v (types.under v (types.typed g v (read vars v) x old)) other)) (holds_grows grown old)

      bound : (v : ℕ) (x : Meant) → look (env ++ bind r (Some value) ∷ []) v ≡ Some x → is_conflict (s.element f v) ≡ false → Holds s.around.layout s.known ghost (s.element f v) (read vars2 v) x
      bound v x h free = bound_at v x (v == r) refl h free

      kept : (v : ℕ) → (v ≡ r → ⊥) → Blank g (type_seen s.around.layout (s.element f v)) (read vars v) → Blank ghost (type_seen s.around.layout (s.element f v)) (read vars2 v)
      kept v other old = void_or_not (type_seen s.around.layout (s.element f v)) (λ t. Blank g t (read vars v) → Blank ghost t (read vars2 v)) (λ o. never (read vars2 v))
          (λ there o. subst (λ (y : Value). Blank ghost (type_seen s.around.layout (s.element f v)) y) (sym (others v (types.under v there) other)) (blank_grows grown o)) old

      blank_at : (v : ℕ) (b : Bool) → (v == r) ≡ b → among v (names_of (env ++ bind r (Some value) ∷ [])) ≡ true → look (env ++ bind r (Some value) ∷ []) v ≡ None → Blank ghost (type_seen s.around.layout (s.element f v)) (read vars2 v)
      blank_at v true e a h =
          let same : v ≡ r = grind (arith, nat_tests, e) in
          let is : look (env ++ bind r (Some value) ∷ []) r ≡ Some value = look_new env r (Some value) new in
          let got : Some value ≡ None = sym is ∙ ap (look (env ++ bind r (Some value) ∷ [])) (sym same) ∙ h in
          absurd (cc)
      blank_at v false e a h =
          let other : v ≡ r → ⊥ = λ k. absurd (grind (arith, nat_tests, e, k)) in
          kept v other (stand.blank v (among_old env (bind r (Some value)) v other a) (sym (look_old env r v (Some value) other) ∙ h))

      blank : (v : ℕ) → among v (names_of (env ++ bind r (Some value) ∷ [])) ≡ true → look (env ++ bind r (Some value) ∷ []) v ≡ None → Blank ghost (type_seen s.around.layout (s.element f v)) (read vars2 v)
      blank v a h = blank_at v (v == r) refl a h

  -- all are what they were
  pub stand_kept : {g ghost : Ghost} {env : List Bound} {vars vars2 : List Value} → Grown g ghost → Stand s g f env vars → ((n : ℕ) → n < below → read vars2 n ≡ read vars n) → Stand s ghost f env vars2
  stand_kept {g = g} {ghost = ghost} {env = env} {vars = vars} {vars2 = vars2} grown stand others = record {
    bound = λ v x h free.
        let old = stand.bound v x h free in
        subst (λ (y : Value). Holds s.around.layout s.known ghost (s.element f v) y x) (sym (others v (types.under v (types.typed g v (read vars v) x old)))) (holds_grows grown old);
    blank = λ v a h. void_or_not (type_seen s.around.layout (s.element f v)) (λ t. Blank g t (read vars v) → Blank ghost t (read vars2 v)) (λ o. never (read vars2 v))
        (λ there o. subst (λ (y : Value). Blank ghost (type_seen s.around.layout (s.element f v)) y) (sym (others v (types.under v there))) (blank_grows grown o)) (stand.blank v a h);
  }

-- ---- operands

module _ (s : Setting) (f : ℕ) (g : Ghost) (env : List Bound) (core : Core) (stand : Stand s g f env core.vars) where
  pub operands_given : (args : List ℕ) (vs : List Meant) → AreFree s f args → values_of env args ≡ Some vs → Given s.known s.around g core (operands_of s f args) vs
  operands_given [] vs free h = let q : vs ≡ [] = cc in subst (λ (ws : List Meant). Given s.known s.around g core [] ws) (sym q) tt
  operands_given (a ∷ args) vs free h = by (λ ws es. operands_given args ws free.1 es) (look env a) refl (values_of env args) refl h
    where
      by : ((ws : List Meant) → values_of env args ≡ Some ws → Given s.known s.around g core (operands_of s f args) ws) → (o : Option Meant) → look env a ≡ o → (os : Option (List Meant)) → values_of env args ≡ os → and_value o os ≡ Some vs → Given s.known s.around g core (operands_of s f (a ∷ args)) vs
      by go None e os es k = absurd (cc)
      by go (Some v) e None es k = absurd (cc)
      by go (Some v) e (Some ws) es k =
          let q : vs ≡ v ∷ ws = cc in
          subst (λ (us : List Meant). Given s.known s.around g core (operands_of s f (a ∷ args)) us) (sym q) (stand.bound a v e free.0, go ws es)

  -- where one of the operands never has a value, they have none
  pub none_given : (args : List ℕ) (vs : List Meant) → HasNever s f args → values_of env args ≡ Some vs → ⊥
  none_given [] vs h k = h
  none_given (a ∷ args) vs h k = by (λ ws m e. none_given args ws m e) h (look env a) refl (values_of env args) refl k
    where
      by : ((ws : List Meant) → HasNever s f args → values_of env args ≡ Some ws → ⊥) → ((is_conflict (s.element f a) ≡ false) × IsNever s f a) ⊎ HasNever s f args → (o : Option Meant) → look env a ≡ o → (os : Option (List Meant)) → values_of env args ≡ os → and_value o os ≡ Some vs → ⊥
      by go m None e os es q = cc
      by go m (Some v) e None es q = cc
      by go (inl m) (Some v) e (Some ws) es q = m.1 g (read core.vars a) v (stand.bound a v e m.0)
      by go (inr m) (Some v) e (Some ws) es q = go ws m es
