-- What is written of instances and function values is tidy.
use Rattle.std.proofs.Common.{◌≡◌, ◌<◌, ◌≤◌, ℕ, ◌+◌, Bool, true, false, List, [], ◌∷◌, ◌++◌, length, slice_get, Option, Some, None, refl, sym, ap, ◌∙◌, subst, arith, append_assoc, length-append}
use Rattle.std.specs.Prelude.{if◌then◌else◌, nat_lt, ◌≢◌}
use Rattle.csub_tree.specs.declared.tree.CConst.TheVariants as constant
use Rattle.csub_tree.specs.declared.tree.COperand.{COperand}
use Rattle.csub_tree.specs.declared.tree.COperand.TheVariants.{Var}
use Rattle.ll_code.specs.declared.program.LlType.{LlType}
use Rattle.ll_code.specs.declared.program.LlType.TheVariants as type
use Rattle.ll_code.specs.declared.program.LlOp.TheVariants as op
use Rattle.ann_element.specs.declared.element.Element.{Element}
use Rattle.class_desc.specs.Line.{init}
use Rattle.rtyper_layout.specs.declared.classes.Laid.{Laid}
use Rattle.rtyper_layout.specs.Types.{type_of as type_of_element, type_seen, root_of}
use Rattle.rtyper_data.specs.declared.body.Body.{Body}
use Rattle.rtyper_data.specs.declared.found.Found.{Found}
use Rattle.rtyper_data.specs.declared.small.Small.TheVariants as small
use Rattle.rtyper_data.specs.Comparing.{flag}
use Rattle.rtyper_data.specs.Converting.{by_small, give, give_nothing, given, landed, landing, present}
use Rattle.rtyper_data.specs.Finding.{same_type, small_number}
use Rattle.rtyper_data.specs.Seen.{Operand, fresh, push, type_at, type_of, with_op, Writing, writing}
use Rattle.rtyper_data.specs.Tuples.{variable_of}
use Rattle.rtyper_op.specs.Calls.{arguments, number_of}
use Rattle.rtyper_class.specs.declared.call.Reached.{Reached}
use Rattle.rtyper_class.specs.declared.call.Reached.TheVariants as reached
use Rattle.rtyper_class.specs.Attributes.{Standing, place_in, read, read_as, read_at, store, store_at, store_in, store_value}
use Rattle.rtyper_class.specs.Calls.{by_vtable, call_init, call_one_of, call_value, indirect, indirect_giving, init_giving, init_if, init_with, looked_in, looked_up, method, method_by, new, new_by, new_into, new_of, param_types, raise, raise_by, raise_value, reached_by, receiver, slot_from, slot_read, through}
use Rattle.rtyper_class.specs.Instances.{builtin_instance, set_field, value_field}
use Rattle.rtyper_class.specs.Seen.{World, laid}
use Rattle.rtyper_class.specs.Vtables.{names_of}
use Rattle.growth_laws.proofs.Growing.{same_found, smalls_grow}
use Rattle.throw_laws.specs.Pieces.{AllIn}
use Rattle.catch_laws.proofs.Reading.{both_in, here_in, right_in}
use Rattle.ll_live.specs.Live.{variables_in}
use Rattle.reading_laws.specs.Results.{SmallGives}
use Rattle.reading_laws.specs.Suits.{attribute_suits, is_some, new_suits, reached_suits, some_function}
use Rattle.reading_laws.specs.Tidy.{AreSet, AreThere, GivesAt, IsSet, IsThere, Setup, Stands, Tidy, Wider, taken, target}
use Rattle.reading_laws.proofs.Steps.{AreGiven, all_given, all_more, args_more, as_tidy, asked, given_more, held, if_taken, if_tidy, more, nothing, pushed, set_fresh, sets_in, still, takes_none, target_set, then_tidy, there_more, variable, wider}
use Rattle.reading_laws.proofs.Values.{by_small_tidy, call_fits, give_made_tidy, give_nothing_tidy, give_tidy, given_tidy, is_void_too, landed_tidy, present_tidy}
use Rattle.reading_laws.proofs.Comparisons.{two_in, variable_of_tidy}
use Rattle.reading_laws.proofs.Calls.{arguments_tidy, call_tidy}
use Rattle.reading_laws.proofs.Operating.{failure_tidy}

module _ {f : Setup} (c : Stands f) where
  -- ---- attributes

  attribute_read : {s : List ℕ} (at : Standing) (kind : LlType) (x : COperand × Writing) → IsSet x.0 s → Tidy f s (taken true f) x.1 (give f.world.around f.place (by_small (small.Attribute at.own at.place x.1.found.covered.attribute) kind (x.0 ∷ []) x.1).0 kind (by_small (small.Attribute at.own at.place x.1.found.covered.attribute) kind (x.0 ∷ []) x.1).1)
  attribute_read at kind x h = give_made_tidy c kind x.1 _ (by_small_tidy c (small.Attribute at.own at.place x.1.found.covered.attribute) kind (x.0 ∷ []) x.1 tt (h, tt))

  read_as_tidy : {s : List ℕ} (at : Standing) (t : LlType) (x : COperand × Writing) → IsSet x.0 s → Tidy f s (taken true f) x.1 (read_as f.world f.place at t x)
  read_as_tidy at type.Void x h = failure_tidy c x.1
  read_as_tidy at type.Signed x h = attribute_read at type.Signed x h
  read_as_tidy at type.Char x h = attribute_read at type.Char x h
  read_as_tidy at type.Bool x h = attribute_read at type.Bool x h
  read_as_tidy at type.Fn x h = attribute_read at type.Fn x h
  read_as_tidy at (type.Ptr n) x h = attribute_read at (type.Ptr n) x h

  read_at_tidy : {s : List ℕ} (at : Option Standing) (x : COperand × Writing) → IsSet x.0 s → Tidy f s (taken (is_some at) f) x.1 (read_at f.world f.place at x)
  read_at_tidy None x h = nothing
  read_at_tidy (Some at) x h = read_as_tidy at (type_of_element f.world.around.layout at.element) x h

  pub read_tidy : {s : List ℕ} (name : List ℕ) (a : Operand) (class : ℕ) (or_none : Bool) (w : Writing) → IsThere f a s → Tidy f s (taken (is_some (place_in f.world class name)) f) w (read f.world f.place name a class or_none w)
  unfolding read
  read_tidy name a class or_none w h = then_tidy (present_tidy c a or_none w h) (λ t m k. read_at_tidy (place_in f.world class name) (present f.world.around a or_none w) k.0)

  -- the value, and that it is set
  set_value : {s : List ℕ} (own at v : ℕ) (x : COperand) (w : Writing) → IsSet (Var v) s → IsSet x s → Tidy f s [] w (push (op.SetField own v at x) w)
  set_value {s} own at v x w h j = pushed [] (op.SetField own v at x) w.found w (two_in (Var v) x s h j) tt (same_found w.found) (λ a i. (refl, tt))

  store_value_tidy : {s : List ℕ} (at : Standing) (a b : Operand) (x : COperand) (value : COperand × Writing) → IsSet x s → IsSet b.x s → IsSet value.0 s → Tidy f s (taken true f) value.1 (store_value f.world f.place at a b x value)
  store_value_tidy at a b x value h j g =
      then_tidy (variable_of_tidy x (type_of f.world.around a) value.1 h) (λ t m k.
      then_tidy (set_value at.own (value_field at.place) (variable_of x (type_of f.world.around a) value.1.body).0 value.0 (writing value.1.found (variable_of x (type_of f.world.around a) value.1.body).1) k.0 (more m g)) (λ u n l.
      then_tidy (set_value at.own (set_field at.place) (variable_of x (type_of f.world.around a) value.1.body).0 (flag true) _ (more n k.0) (held (constant.Bool true) u)) (λ v r q.
      give_tidy c b.x (type_of f.world.around b) _ (more (wider (wider m n) r) j))))

  store_at_tidy : {s : List ℕ} (at : Option Standing) (a b : Operand) (x : COperand × Writing) → IsSet x.0 s → IsSet b.x s → Tidy f s (taken (is_some at) f) x.1 (store_at f.world f.place at a b x)
  store_at_tidy None a b x h j = nothing
  store_at_tidy (Some at) a b x h j =
      then_tidy (given_tidy c b (type_of_element f.world.around.layout at.element) x.1 j) (λ t m k. store_value_tidy at a b x.0 (given f.world.around b (type_of_element f.world.around.layout at.element) x.1) (more m h) (more m j) k.0)

  pub store_tidy : {s : List ℕ} (name : List ℕ) (a b : Operand) (class : ℕ) (or_none : Bool) (w : Writing) → IsThere f a s → IsSet b.x s → Tidy f s (taken (is_some (place_in f.world class name)) f) w (store f.world f.place name a b class or_none w)
  unfolding store
  store_tidy name a b class or_none w h j = then_tidy (present_tidy c a or_none w h) (λ t m k. store_at_tidy (place_in f.world class name) a b (present f.world.around a or_none w) k.0 (more m j))

  -- ---- calls through function values

  indirect_lands : {s : List ℕ} (v : ℕ) (kinds : List LlType) (t : LlType) (xs : List COperand) (w : Writing) → t ≢ type.Void → IsSet (Var v) s → AreSet xs s
      → Tidy f s (taken true f) w (landed f.world.around f.place t (λ into. op.CallFn (Some into) t kinds v xs) w.found (landing f.world.around f.place t w.body))
  indirect_lands {s} v kinds t xs w there h j = landed_tidy c t (λ into. op.CallFn (Some into) t kinds v xs) w.found w there (λ into. both_in (v ∷ []) (variables_in xs) s h.it (sets_in xs s j)) (λ into. refl) (same_found w.found) (λ a i into q. (q, there))

  indirect_giving_tidy : {s : List ℕ} (v : ℕ) (kinds : List LlType) (t : LlType) (xs : List COperand × Writing) → IsSet (Var v) s → AreSet xs.0 s → Tidy f s (taken true f) xs.1 (indirect_giving f.world.around f.place v kinds t xs)
  unfolding indirect_giving
  indirect_giving_tidy {s} v kinds type.Void xs h j =
      then_tidy (pushed [] (op.CallFn None type.Void kinds v xs.0) xs.1.found xs.1 (both_in (v ∷ []) (variables_in xs.0) s h.it (sets_in xs.0 s j)) tt (same_found xs.1.found) (λ a i. tt)) (λ t m k.
      give_nothing_tidy c (writing xs.1.found (with_op (op.CallFn None type.Void kinds v xs.0) xs.1.body)))
  indirect_giving_tidy v kinds type.Signed xs h j = indirect_lands v kinds type.Signed xs.0 xs.1 (λ e. absurd (cc)) h j
  indirect_giving_tidy v kinds type.Char xs h j = indirect_lands v kinds type.Char xs.0 xs.1 (λ e. absurd (cc)) h j
  indirect_giving_tidy v kinds type.Bool xs h j = indirect_lands v kinds type.Bool xs.0 xs.1 (λ e. absurd (cc)) h j
  indirect_giving_tidy v kinds type.Fn xs h j = indirect_lands v kinds type.Fn xs.0 xs.1 (λ e. absurd (cc)) h j
  indirect_giving_tidy v kinds (type.Ptr n) xs h j = indirect_lands v kinds (type.Ptr n) xs.0 xs.1 (λ e. absurd (cc)) h j

  indirect_tidy : {s : List ℕ} (v like : ℕ) (args : List Operand) (w : Writing) → IsSet (Var v) s → AreGiven args s → Tidy f s (taken true f) w (indirect f.world.around f.place v like args w)
  unfolding indirect
  indirect_tidy v like args w h j =
      then_tidy (arguments_tidy c like args w j) (λ t m k. indirect_giving_tidy v (param_types f.world.around like) (type_seen f.world.around.layout (slice_get f.world.around.results like)) (arguments f.world.around like args w) (more m h) k)

  through_tidy : {s : List ℕ} (like : ℕ) (args : List Operand) (w : Writing) (v : ℕ × Body) → AreGiven args s → Tidy f s (Var v.0 ∷ []) w (writing w.found v.1) → Tidy f s (taken true f) w (through f.world.around f.place like args w.found v)
  through_tidy like args w v j one = then_tidy one (λ t m k. indirect_tidy v.0 like args (writing w.found v.1) k.0 (given_more args m j))

  call_one_of_tidy : {s : List ℕ} (fs : List ℕ) (args : List Operand) (x : COperand × Writing) → IsSet x.0 s → AreGiven args s → Tidy f s (taken (some_function fs) f) x.1 (call_one_of f.world.around f.place fs args x)
  call_one_of_tidy [] args x h j = nothing
  call_one_of_tidy (g ∷ []) args x h j = call_tidy c g args x.1 j
  call_one_of_tidy (g ∷ g2 ∷ fs) args x h j = through_tidy g args x.1 (variable_of x.0 type.Fn x.1.body) j (variable_of_tidy x.0 type.Fn x.1 h)

  pub call_value_tidy : {s : List ℕ} (a : Operand) (fs : List ℕ) (or_none : Bool) (args : List Operand) (w : Writing) → IsThere f a s → AreGiven args s → Tidy f s (taken (some_function fs) f) w (call_value f.world.around f.place a fs or_none args w)
  unfolding call_value
  call_value_tidy a fs or_none args w h j = then_tidy (present_tidy c a or_none w h) (λ t m k. call_one_of_tidy fs args (present f.world.around a or_none w) k.0 (given_more args m j))

  -- ---- methods

  -- the vtable of the instance is read, and the function in it
  slot_read_tidy : {s : List ℕ} (l : Laid) (slot instance : ℕ) (w : Writing) → IsSet (Var instance) s
      → Tidy f s (Var (slot_read l slot instance (fresh type.Fn w.body).0 (fresh (type.Ptr l.vtable) (fresh type.Fn w.body).1)).0 ∷ []) w (writing w.found (slot_read l slot instance (fresh type.Fn w.body).0 (fresh (type.Ptr l.vtable) (fresh type.Fn w.body).1)).1)
  slot_read_tidy {s} l slot instance w h = record {
    ops = op.GetField vtable l.root instance 0 ∷ op.GetField function l.vtable vtable slot ∷ [];
    new = type.Fn ∷ type.Ptr l.vtable ∷ [];
    written = append_assoc w.body.ops (op.GetField vtable l.root instance 0 ∷ []) (op.GetField function l.vtable vtable slot ∷ []);
    types = append_assoc w.body.types (type.Fn ∷ []) (type.Ptr l.vtable ∷ []);
    grows = same_found w.found;
    reads = (h.it, (own vtable s, tt));
    sets = (variable function ((s ++ vtable ∷ []) ++ function ∷ []) (right_in function (s ++ vtable ∷ []) (function ∷ []) (here_in function [])), tt);
    fits = λ a i j. ((refl, (let q : length ((w.body.types ++ type.Fn ∷ []) ++ type.Ptr l.vtable ∷ []) ≡ length (w.body.types ++ type.Fn ∷ []) + 1 = length-append (w.body.types ++ type.Fn ∷ []) (type.Ptr l.vtable ∷ []) in omega (arith, q, j))), ((refl, (let q : length ((w.body.types ++ type.Fn ∷ []) ++ type.Ptr l.vtable ∷ []) ≡ length (w.body.types ++ type.Fn ∷ []) + 1 = length-append (w.body.types ++ type.Fn ∷ []) (type.Ptr l.vtable ∷ []) in let r : length (w.body.types ++ type.Fn ∷ []) ≡ length w.body.types + 1 = length-append w.body.types (type.Fn ∷ []) in omega (arith, q, r, j))), tt));
  }
    where
      function : ℕ
      function = length w.body.types

      vtable : ℕ
      vtable = length (w.body.types ++ type.Fn ∷ [])

      own : (v : ℕ) (s : List ℕ) → AllIn (v ∷ []) (s ++ v ∷ [])
      own v s u k = right_in u s (v ∷ []) k

  looked_in_tidy : {s : List ℕ} (name : List ℕ) (instance : ℕ) (l : Option Laid) (w : Writing) → is_some l ≡ true → IsSet (Var instance) s
      → Tidy f s (Var (looked_in f.world name instance l (fresh type.Fn w.body)).0 ∷ []) w (writing w.found (looked_in f.world name instance l (fresh type.Fn w.body)).1)
  looked_in_tidy name instance None w e h = absurd (cc)
  looked_in_tidy name instance (Some l) w e h = slot_read_tidy l (slot_from 1 (names_of f.world l.vtable) name) instance w h

  looked_up_tidy : {s : List ℕ} (class : ℕ) (name : List ℕ) (instance : ℕ) (w : Writing) → is_some (laid f.world class) ≡ true → IsSet (Var instance) s
      → Tidy f s (Var (looked_up f.world class name instance w.body).0 ∷ []) w (writing w.found (looked_up f.world class name instance w.body).1)
  unfolding looked_up
  looked_up_tidy class name instance w e h = looked_in_tidy name instance (laid f.world class) w e h

  method_by_tidy : {s : List ℕ} (name : List ℕ) (class : ℕ) (a : Operand) (rest : List Operand) (r : Reached) (x : COperand × Writing) → is_some (laid f.world class) ≡ true → IsSet x.0 s → AreGiven rest s → Tidy f s (taken (reached_suits r) f) x.1 (method_by f.world f.place name class a rest r x)
  method_by_tidy name class a rest reached.Nothing x e h j = nothing
  method_by_tidy name class a rest (reached.One g) x e h j = call_tidy c g (receiver x.0 a ∷ rest) x.1 (h, j)
  method_by_tidy name class a rest (reached.Several g) x e h j =
      then_tidy (variable_of_tidy x.0 (type_of f.world.around a) x.1 h) (λ t m k.
      through_tidy g (receiver x.0 a ∷ rest) (writing x.1.found (variable_of x.0 (type_of f.world.around a) x.1.body).1) (looked_up f.world class name (variable_of x.0 (type_of f.world.around a) x.1.body).0 (variable_of x.0 (type_of f.world.around a) x.1.body).1) (more m h, given_more rest m j)
      (looked_up_tidy class name (variable_of x.0 (type_of f.world.around a) x.1.body).0 (writing x.1.found (variable_of x.0 (type_of f.world.around a) x.1.body).1) e k.0))

  pub method_tidy : {s : List ℕ} (name : List ℕ) (class : ℕ) (or_none : Bool) (a : Operand) (rest : List Operand) (w : Writing) → is_some (laid f.world class) ≡ true → IsThere f a s → AreGiven rest s
      → Tidy f s (taken (reached_suits (reached_by f.world class name)) f) w (method f.world f.place name class or_none (a ∷ rest) w)
  unfolding method
  method_tidy name class or_none a rest w e h j = then_tidy (present_tidy c a or_none w h) (λ t m k. method_by_tidy name class a rest (reached_by f.world class name) (present f.world.around a or_none w) e k.0 (given_more rest m j))

  -- ---- new instances, and what is raised

  init_sets : {s : List ℕ} (number : ℕ) (gives : LlType) (xs : List COperand) (w : Writing) → GivesAt f.program number → AreSet xs s → Tidy f s [] w (writing w.found (with_op (op.Call (Some (fresh gives w.body).0) number xs) (fresh gives w.body).1))
  init_sets {s} number gives xs w g h = as_tidy [] (set_fresh gives (λ v. op.Call (Some v) number xs) w.found w (λ v. sets_in xs s h) (λ v. refl) (same_found w.found) (λ a i v j. call_fits c number v xs g j)) (λ t m k. tt)

  init_with_tidy : {s : List ℕ} (number : ℕ) (gives : LlType) (xs : List COperand × Writing) → (gives ≢ type.Void → GivesAt f.program number) → AreSet xs.0 s → Tidy f s [] xs.1 (init_with number gives xs)
  unfolding init_giving
  init_with_tidy {s} number type.Void xs g h = pushed [] (op.Call None number xs.0) xs.1.found xs.1 (sets_in xs.0 s h) tt (same_found xs.1.found) (λ a i. takes_none f.program f.size _)
  init_with_tidy number type.Signed xs g h = init_sets number type.Signed xs.0 xs.1 (g (λ e. absurd (cc))) h
  init_with_tidy number type.Char xs g h = init_sets number type.Char xs.0 xs.1 (g (λ e. absurd (cc))) h
  init_with_tidy number type.Bool xs g h = init_sets number type.Bool xs.0 xs.1 (g (λ e. absurd (cc))) h
  init_with_tidy number type.Fn xs g h = init_sets number type.Fn xs.0 xs.1 (g (λ e. absurd (cc))) h
  init_with_tidy number (type.Ptr n) xs g h = init_sets number (type.Ptr n) xs.0 xs.1 (g (λ e. absurd (cc))) h

  init_if_tidy : {s : List ℕ} (instance : ℕ) (g : Option ℕ) (args : List Operand) (w : Writing) → IsSet (Var instance) s → AreGiven args s → Tidy f s [] w (init_if f.world.around instance f.place g args w)
  unfolding call_init
  init_if_tidy instance None args w h j = nothing
  init_if_tidy instance (Some g) args w h j =
      then_tidy (arguments_tidy c g (record { x = Var instance; element = f.place.element } ∷ args) w (h, j)) (λ t m k.
      init_with_tidy (number_of f.world.around g) (type_seen f.world.around.layout (slice_get f.world.around.results g)) (arguments f.world.around g (record { x = Var instance; element = f.place.element } ∷ args) w) (c.calls.functions g) k)

  -- the call that makes it, in the place or a new variable
  new_of_tidy : {s : List ℕ} (class : ℕ) (args : List Operand) (root : ℕ) (w : Writing) → SmallGives f.world (small.New class) → AreGiven args s → Tidy f s (taken (same_type (type_at f.world.around f.place) (type.Ptr root)) f) w (new_of f.world f.place class args (type.Ptr root) w)
  new_of_tidy {s} class args root w n h = on (same_type (type_at f.world.around f.place) (type.Ptr root)) refl
    where
      behind : {s : List ℕ} (xs : List COperand) (v : ℕ) (u : Writing) → IsSet (Var v) s → AreGiven args s → AreSet xs s → Tidy f s xs u (init_if f.world.around v f.place (init f.world.classes.classes class) args u)
      behind xs v u k j l = as_tidy xs (init_if_tidy v (init f.world.classes.classes class) args u k j) (λ t m i. all_more xs m l)

      own : type_at f.world.around f.place ≢ type.Void → Tidy f s (Var f.place.variable ∷ []) w (writing (small_number (small.New class) w.found).1 (with_op (op.Call (Some f.place.variable) (small_number (small.New class) w.found).0 []) w.body))
      own there = pushed (Var f.place.variable ∷ []) (op.Call (Some f.place.variable) (small_number (small.New class) w.found).0 []) (small_number (small.New class) w.found).1 w (sets_in [] s tt)
          (variable f.place.variable (s ++ f.place.variable ∷ []) (right_in f.place.variable s (f.place.variable ∷ []) (here_in f.place.variable [])), tt) (smalls_grow (small.New class) w.found)
          (λ a i. call_fits c (small_number (small.New class) w.found).0 f.place.variable [] (c.calls.smalls (small.New class) n w.found i) (c.under there))

      on : (b : Bool) → same_type (type_at f.world.around f.place) (type.Ptr root) ≡ b → Tidy f s (taken b f) w (new_into f.world f.place class args (small_number (small.New class) w.found) (if b then (f.place.variable, w.body) else fresh (type.Ptr root) w.body))
      on true e = then_tidy (own (λ q. absurd (let p : type.Ptr root ≡ type.Void = is_void_too (type_at f.world.around f.place) (type.Ptr root) e q in cc))) (λ t m k. behind (taken true f) f.place.variable _ k.0 (given_more args m h) (target_set t (type_at f.world.around f.place) f.place.variable k.0))
      on false e = then_tidy (set_fresh (type.Ptr root) (λ v. op.Call (Some v) (small_number (small.New class) w.found).0 []) (small_number (small.New class) w.found).1 w (λ v. sets_in [] s tt) (λ v. refl) (smalls_grow (small.New class) w.found)
          (λ a i v j. call_fits c (small_number (small.New class) w.found).0 v [] (c.calls.smalls (small.New class) n w.found i) j)) (λ t m k. behind [] (fresh (type.Ptr root) w.body).0 _ k.0 (given_more args m h) tt)

  builtin_set : (s : List ℕ) (class : ℕ) → IsSet (builtin_instance f.world class) s
  unfolding builtin_instance
  builtin_set s class = held _ s

  new_by_tidy : {s : List ℕ} (class : ℕ) (args : List Operand) (l : Option Laid) (w : Writing) → laid f.world class ≡ l → AreGiven args s → Tidy f s (taken (new_suits f.world f.place class l) f) w (new_by f.world f.place class args l w)
  new_by_tidy class args None w e h = nothing
  new_by_tidy {s} class args (Some l) w e h = if_taken (nat_lt class 13) true _ _ _ (give_tidy c (builtin_instance f.world class) (type.Ptr l.root) w (builtin_set s class)) (new_of_tidy class args l.root w (l, e) h)

  pub new_tidy : {s : List ℕ} (class : ℕ) (args : List Operand) (w : Writing) → AreGiven args s → Tidy f s (taken (new_suits f.world f.place class (laid f.world class)) f) w (new f.world f.place class args w)
  unfolding new
  new_tidy class args w h = new_by_tidy class args (laid f.world class) w refl h

  -- nothing comes behind a raise, so the place is set before
  pub raise_tidy : {s : List ℕ} (a : Operand) (or_none : Bool) (w : Writing) → IsThere f a s → Tidy f s (taken true f) w (raise f.world.around f.place a or_none w)
  unfolding raise
  raise_tidy a or_none w h =
      then_tidy (give_nothing_tidy c w) (λ t m k.
      then_tidy (present_tidy c a or_none (writing w.found (give_nothing f.world.around f.place w.body)) (there_more m h)) (λ u n l.
      then_tidy (variable_of_tidy (present f.world.around a or_none (writing w.found (give_nothing f.world.around f.place w.body))).0 (type_of f.world.around a) (present f.world.around a or_none (writing w.found (give_nothing f.world.around f.place w.body))).1 l.0) (λ v r q.
      pushed (taken true f) (op.Raise _) _ _ q.0.it (all_more (taken true f) (wider n r) k) (same_found _) (λ a i. (refl, tt)))))
