-- What a function gives goes to the place.
use Rattle.std.proofs.Common.{◌≡◌, ◌<◌, ◌≤◌, ℕ, suc, ◌+◌, ◌==◌, true, false, Bool, List, [], ◌∷◌, ◌++◌, length, Option, Some, None, refl, sym, ap, ◌∙◌, subst, arith, append_assoc, length-append}
use Rattle.std.specs.Prelude.{slice_set, if◌then◌else◌}
use Rattle.std.proofs.lemmas.Bool.Decides.{nat_tests}
use Rattle.std.proofs.lemmas.List.{append-nil, get_or-set_same, get_or-set_other, length-set}
use Rattle.ann_element.specs.declared.element.Element.{Element}
use Rattle.csub_tree.specs.State.{Value, Unset, Core}
use Rattle.csub_tree.specs.declared.tree.COperand.TheVariants.{Var}
use Rattle.ll_code.specs.State.{Frame, At, Returning}
use Rattle.ll_code.specs.Machine.{waiting, resumed}
use Rattle.ll_code.specs.declared.program.LlType.{LlType}
use Rattle.ll_code.specs.declared.program.LlType.TheVariants as type
use Rattle.ll_code.specs.declared.program.LlOp.{LlOp}
use Rattle.ll_code.specs.declared.program.LlOp.TheVariants as op
use Rattle.ll_code.specs.declared.program.LlExit.{LlExit}
use Rattle.ll_code.specs.declared.program.LlProgram.{LlProgram}
use Rattle.ll_leads.specs.Path.{Leads}
use Rattle.ll_leads.proofs.Joined.{leads_then, leads_more}
use Rattle.ll_leads.proofs.Ways.{one}
use Rattle.ll_build.specs.declared.needs.Numbers.{Numbers}
use Rattle.rpy_tree.specs.Value.{Value as Meant}
use Rattle.rpy_meaning.specs.World.{World as MeantWorld}
use Rattle.rtyper_layout.specs.declared.layout.Layout.{Layout}
use Rattle.rtyper_layout.specs.Layout.{is_tuple}
use Rattle.rtyper_layout.specs.Types.{type_of}
use Rattle.rtyper_data.specs.Converting.{default_operand, give, give_nothing, nothing_to, landing, landed}
use Rattle.rtyper_data.specs.Finding.{same_type}
use Rattle.rtyper_data.specs.Seen.{Around, Place, type_at, with_op, fresh, Writing, writing}
use Rattle.lower_laws.specs.Asked.{all_asked}
use Rattle.lower_laws.proofs.Doing.{same_type_is}
use Rattle.object_laws.specs.Done.{HasLayout}
use Rattle.object_laws.specs.Ghost.{Ghost}
use Rattle.object_laws.specs.Known.{Known}
use Rattle.object_laws.specs.Represents.{Represents}
use Rattle.object_laws.specs.Values.{Holds}
use Rattle.object_laws.proofs.Growing.{grown_none}
use Rattle.conversion_laws.specs.Asked.{Has, asked_by, asks_for}
use Rattle.conversion_laws.specs.Converted.{tuples_in, items_in}
use Rattle.conversion_laws.specs.Going.{Goes}
use Rattle.conversion_laws.proofs.Turning.{same_is}
use Rattle.conversion_laws.proofs.Valued.{never_held, from_typed, goes_same}
use Rattle.call_laws.proofs.Called.{lands_place}
use Rattle.passing_laws.specs.Given.{Placed, IsGiven}
use Rattle.passing_laws.specs.Standing.{Stood}
use Rattle.passing_laws.proofs.Giving.{results_are_given}
use Rattle.call_conversion_laws.specs.Called.{Resumes}

-- ---- what is written

-- behind the operation that calls, where what is called gives something of this type
abbrev pub call_by : Around → Place → (Option ℕ → LlOp) → LlType → Writing → Writing
call_by around place calls type.Void w = writing w.found (give_nothing around place (with_op (calls None) w.body))
call_by around place calls t w = landed around place t (λ v. calls (Some v)) w.found (landing around place t w.body)

gives_something : (around : Around) (place : Place) (calls : Option ℕ → LlOp) (t : LlType) (w : Writing) → (t ≡ type.Void → ⊥) → call_by around place calls t w ≡ landed around place t (λ v. calls (Some v)) w.found (landing around place t w.body)
gives_something around place calls type.Void w there = absurd (there refl)
gives_something around place calls type.Signed w there = refl
gives_something around place calls type.Char w there = refl
gives_something around place calls type.Bool w there = refl
gives_something around place calls type.Fn w there = refl
gives_something around place calls (type.Ptr n) w there = refl

-- what is set where nothing is given
abbrev nothing_ops : Place → LlType → List LlOp
nothing_ops place type.Void = []
nothing_ops place t = op.Set place.variable (default_operand t) ∷ []

nothing_is : (place : Place) (t : LlType) (calls : LlOp) (w : Writing) → writing w.found (nothing_to place t (with_op calls w.body)) ≡ writing w.found (record { types = w.body.types ++ []; ops = w.body.ops ++ (calls ∷ nothing_ops place t) })
nothing_is place t calls w = by t ∙ ap (λ ts. writing w.found (record { types = ts; ops = w.body.ops ++ (calls ∷ nothing_ops place t) })) (sym (append-nil w.body.types))
  where
    by : (t : LlType) → writing w.found (nothing_to place t (with_op calls w.body)) ≡ writing w.found (record { types = w.body.types; ops = w.body.ops ++ (calls ∷ nothing_ops place t) })
    by type.Void = refl
    by type.Signed = ap (λ os. writing w.found (record { types = w.body.types; ops = os })) (append_assoc w.body.ops (calls ∷ []) (op.Set place.variable (default_operand type.Signed) ∷ []))
    by type.Char = ap (λ os. writing w.found (record { types = w.body.types; ops = os })) (append_assoc w.body.ops (calls ∷ []) (op.Set place.variable (default_operand type.Char) ∷ []))
    by type.Bool = ap (λ os. writing w.found (record { types = w.body.types; ops = os })) (append_assoc w.body.ops (calls ∷ []) (op.Set place.variable (default_operand type.Bool) ∷ []))
    by type.Fn = ap (λ os. writing w.found (record { types = w.body.types; ops = os })) (append_assoc w.body.ops (calls ∷ []) (op.Set place.variable (default_operand type.Fn) ∷ []))
    by (type.Ptr n) = ap (λ os. writing w.found (record { types = w.body.types; ops = os })) (append_assoc w.body.ops (calls ∷ []) (op.Set place.variable (default_operand (type.Ptr n)) ∷ []))

-- of nothing nothing is converted
nothing_asks : (layout : Layout) (t : LlType) → asks_for layout type.Void t ≡ []
nothing_asks layout type.Signed = refl
nothing_asks layout type.Void = refl
nothing_asks layout type.Char = refl
nothing_asks layout type.Bool = refl
nothing_asks layout type.Fn = refl
nothing_asks layout (type.Ptr n) = refl

same_asks : (layout : Layout) (t : LlType) → asks_for layout t t ≡ []
same_asks layout t = ap (λ b. if b then [] else asked_by layout t t) (same_type_is t)

-- ---- what it does

-- What is written for an operation that calls, and what waits behind it: it goes on with what it is given.
pub record Lands (known : Known) (around : Around) (place : Place) (result : Element) (calls : Option ℕ → LlOp) (w : Writing) : Type 0 where
  pub into : Option ℕ
  pub after : List LlOp
  pub new : List LlType
  pub is : call_by around place calls (type_of around.layout result) w ≡ writing (all_asked (asks_for around.layout (type_of around.layout result) (type_at around place)) w.found) (record { types = w.body.types ++ new; ops = w.body.ops ++ (calls into ∷ after) })
  pub back : (p : LlProgram) (numbers : Numbers) (raised : ℕ → Value) → HasLayout p around.layout → Stood around.layout known (Has p around.layout numbers raised) (asks_for around.layout (type_of around.layout result) (type_at around place)) w.found
      → (arguments : List (List ℕ)) (rest : List LlOp) (e : LlExit) (frames : List Frame) (mid later : Core) (g : Ghost) (x : Value) (v : Meant) (w2 : MeantWorld) → length w.body.types + length new ≤ length mid.vars
      → Represents around.layout known g w2.heap w2.left later.blocks later.statics → w2.left ≡ later.steps → Holds around.layout known g (Some result) x v
      → Resumes known around place p arguments rest e frames mid (length w.body.types) (waiting mid into (after ++ rest) e) later g x v w2

module _ (known : Known) (around : Around) (place : Place) (result : Element) (calls : Option ℕ → LlOp) (w : Writing) (apart : is_tuple around.layout 0 ≡ false) (inside : place.variable < length w.body.types) (go : Goes around.layout known (Some result) place.element) where
  abbrev t : LlType
  t = type_of around.layout result

  abbrev u : LlType
  u = type_at around place

  abbrev m : ℕ
  m = length w.body.types

  abbrev called : Writing
  called = writing w.found (with_op (calls (Some m)) (fresh t w.body).1)

  -- it never comes back
  never : t ≡ type.Void → Lands known around place result calls w
  never h = record {
    into = None;
    after = nothing_ops place u;
    new = [];
    is = ap (λ t. call_by around place calls t w) h ∙ nothing_is place u (calls None) w ∙ ap (λ asks. writing (all_asked asks w.found) (record { types = w.body.types ++ []; ops = w.body.ops ++ (calls None ∷ nothing_ops place u) })) (sym (ap (λ t. asks_for around.layout t u) h ∙ nothing_asks around.layout u));
    back = λ p numbers raised structs stood arguments rest e frames mid later g x v w2 room stands left held. absurd (from_typed go (λ k. never_held k held) h);
  }

  -- the place has its type
  as_it_is : (t ≡ type.Void → ⊥) → u ≡ t → Lands known around place result calls w
  as_it_is there h = record {
    into = Some place.variable;
    after = [];
    new = [];
    is = gives_something around place calls t w there ∙ lands_place around place t (λ v. calls (Some v)) w.found w.body h
        ∙ ap (λ asks. writing (all_asked asks w.found) (with_op (calls (Some place.variable)) w.body)) (sym (ap (asks_for around.layout t) h ∙ same_asks around.layout t))
        ∙ ap (λ ts. writing (all_asked (asks_for around.layout t u) w.found) (record { types = ts; ops = w.body.ops ++ calls (Some place.variable) ∷ [] })) (sym (append-nil w.body.types));
    back = λ p numbers raised structs stood arguments rest e frames mid later g x v w2 room stands left held. record {
      end = record (resumed (waiting mid (Some place.variable) rest e) later) { vars = slice_set mid.vars place.variable x };
      leads = leads_more 0 (items_in place.element) (omega arith) (one refl refl);
      ghost = g;
      grown = grown_none;
      stands = stands;
      few = omega arith;
      memory = refl;
      holds = subst (λ y. Holds around.layout known g place.element y v) (sym (get_or-set_same mid.vars place.variable x Unset (omega (arith, inside, room)))) (goes_same go (sym h) held);
      others = λ n under other. get_or-set_other mid.vars place.variable n x Unset other;
      room = length-set mid.vars place.variable x;
      function = refl;
      block = refl;
    };
  }

  -- it is converted
  it : IsGiven known around place (Some result) (Var m) called
  it = results_are_given known around place (Some result) (Var m) called apart go

  one_more : length called.body.types ≡ m + 1
  one_more = length-append w.body.types (t ∷ [])

  other_variable : (m == place.variable) ≡ false
  other_variable = grind (arith, nat_tests, inside)

  converted : (t ≡ type.Void → ⊥) → same_type u t ≡ false → Lands known around place result calls w
  converted there h = record {
    into = Some m;
    after = it.ops;
    new = t ∷ it.new;
    is = gives_something around place calls t w there
        ∙ ap (λ b. landed around place t (λ v. calls (Some v)) w.found (if b then (place.variable, w.body) else fresh t w.body)) h
        ∙ ap (λ b. if b then called else give around place (Var m) t called) other_variable
        ∙ it.is
        ∙ ap (λ ts. writing (all_asked (asks_for around.layout t u) w.found) (record { types = ts; ops = (w.body.ops ++ calls (Some m) ∷ []) ++ it.ops })) (append_assoc w.body.types (t ∷ []) it.new)
        ∙ ap (λ os. writing (all_asked (asks_for around.layout t u) w.found) (record { types = w.body.types ++ (t ∷ it.new); ops = os })) (append_assoc w.body.ops (calls (Some m) ∷ []) it.ops);
    back = back;
  }
    where
      back : (p : LlProgram) (numbers : Numbers) (raised : ℕ → Value) → HasLayout p around.layout → Stood around.layout known (Has p around.layout numbers raised) (asks_for around.layout t u) w.found
          → (arguments : List (List ℕ)) (rest : List LlOp) (e : LlExit) (frames : List Frame) (mid later : Core) (g : Ghost) (x : Value) (v : Meant) (w2 : MeantWorld) → m + length (t ∷ it.new) ≤ length mid.vars
          → Represents around.layout known g w2.heap w2.left later.blocks later.statics → w2.left ≡ later.steps → Holds around.layout known g (Some result) x v
          → Resumes known around place p arguments rest e frames mid m (waiting mid (Some m) (it.ops ++ rest) e) later g x v w2
      back p numbers raised structs stood arguments rest e frames mid later g x v w2 room stands left held =
          let core1 : Core = record (resumed (waiting mid (Some m) (it.ops ++ rest) e) later) { vars = slice_set mid.vars m x } in
          let room1 : m + suc (length it.new) ≤ length mid.vars = room in
          let comes : Leads p arguments 0 (Returning x (waiting mid (Some m) (it.ops ++ rest) e ∷ frames) later) [] (At (it.ops ++ rest) e frames core1) = one refl refl in
          let long : length core1.vars ≡ length mid.vars = length-set mid.vars m x in
          let at : Holds around.layout known g (Some result) _ v = subst (λ y. Holds around.layout known g (Some result) y v) (sym (get_or-set_same mid.vars m x Unset (omega (arith, room1)))) held in
          let placed : Placed known around place p arguments (At (it.ops ++ rest) e frames core1) rest e frames core1 g w2.heap w2.left (length called.body.types) (items_in place.element) (tuples_in place.element) v =
          it.follows p numbers raised arguments rest e frames core1 g w2.heap w2.left v structs stood stands left (omega (arith, room1, long, one_more)) (omega (arith, room1, long, inside)) (omega (arith, one_more)) at in
          record {
            end = placed.end;
            leads = leads_more (0 + items_in place.element) (items_in place.element) (omega arith) (leads_then comes placed.leads);
            ghost = placed.ghost;
            grown = placed.grown;
            stands = placed.stands;
            few = placed.few;
            memory = placed.memory;
            holds = placed.holds;
            others = λ n under other. placed.others n (omega (arith, under, one_more)) other ∙ get_or-set_other mid.vars m n x Unset (λ q. absurd (omega (arith, under, q)));
            room = placed.room ∙ long;
            function = placed.function;
            block = placed.block;
          }

  pub lands : Lands known around place result calls w
  lands = by (same_type t type.Void) refl (same_type u t) refl
    where
      by : (b : Bool) → same_type t type.Void ≡ b → (c : Bool) → same_type u t ≡ c → Lands known around place result calls w
      by true h c k = never (same_is t type.Void h)
      by false h true k = as_it_is (λ e. (let q : same_type type.Void type.Void ≡ false = sym (ap (λ t. same_type t type.Void) e) ∙ h in absurd (cc))) (same_is u t k)
      by false h false k = converted (λ e. (let q : same_type type.Void type.Void ≡ false = sym (ap (λ t. same_type t type.Void) e) ∙ h in absurd (cc))) k
