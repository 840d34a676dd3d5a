-- Whether two simple values are equal.
use Rattle.std.proofs.Common.{◌≡◌, ◌<◌, ◌≤◌, ℕ, suc, ◌+◌, ℤ, Bool, true, false, ◌&&◌, ◌||◌, List, [], ◌∷◌, ◌++◌, length, Option, Some, Ok, pos, refl, sym, ap, ◌∙◌, subst, arith, length-append}
use Rattle.std.specs.Prelude.{nat_eq}
use Rattle.std.specs.Ordering.{int_eq}
use Rattle.std.specs.Str.{bytes_eq}
use Rattle.std.proofs.lemmas.Bool.Decides.{nat_tests}
use Rattle.std.proofs.lemmas.List.{append-nil}
use Rattle.ann_element.specs.declared.element.Element.{Element}
use Rattle.csub_tree.specs.State.{Value, Word, Byte, Flag, Null, Static, Core}
use Rattle.csub_tree.specs.Operation.{is_unset, unary_of, binary_of}
use Rattle.csub_tree.specs.Statement.{operand, any_unset}
use Rattle.csub_tree.specs.declared.tree.CBinary.{CBinary}
use Rattle.csub_tree.specs.declared.tree.CBinary.TheVariants as binary
use Rattle.csub_tree.specs.declared.tree.CUnary.TheVariants as unary
use Rattle.csub_tree.specs.declared.tree.COperand.{COperand}
use Rattle.csub_tree.specs.declared.tree.COperand.TheVariants.{Var}
use Rattle.ll_build.specs.Build.{fork}
use Rattle.ll_build.specs.declared.needs.Helper.TheVariants as helper
use Rattle.ll_build.specs.declared.needs.Numbers.{Numbers}
use Rattle.ll_build.specs.declared.needs.Shared.TheVariants as shared
use Rattle.ll_code.specs.State.{Frame, State, Calling, At}
use Rattle.ll_code.specs.declared.program.LlType.{LlType}
use Rattle.ll_code.specs.declared.program.LlType.TheVariants as type
use Rattle.ll_code.specs.declared.program.LlOp.{LlOp}
use Rattle.ll_code.specs.declared.program.LlOp.TheVariants as op
use Rattle.ll_code.specs.declared.program.LlExit.{LlExit}
use Rattle.ll_code.specs.declared.program.LlProgram.{LlProgram}
use Rattle.ll_leads.specs.Path.{Leads}
use Rattle.ll_leads.proofs.Ways.{Comes, on, rests, many, enter, gives, turns, call}
use Rattle.ll_strings.specs.Laws.{HasHelper}
use Rattle.ll_strings.proofs.Equal.{compares, other_length, same_numbers}
use Rattle.ll_texts.specs.Texts.{IsText}
use Rattle.ll_texts.proofs.Reading.{is_set, is_there, gets_length}
use Rattle.rpy_tree.specs.Value.{Value as Meant, Text, Nothing, Heap, Word as MeantWord, Flag as MeantFlag}
use Rattle.rpy_meaning.specs.Compare.{equal, same_flag}
use Rattle.rtyper_layout.specs.declared.layout.Layout.{Layout}
use Rattle.rtyper_layout.specs.Kinds.{kind_seen}
use Rattle.rtyper_layout.specs.Types.{type_seen}
use Rattle.rtyper_data.specs.Comparing.{null}
use Rattle.rtyper_data.specs.Finding.{helper_number}
use Rattle.rtyper_data.specs.Seen.{Writing}
use Rattle.lower_laws.specs.Values.{is_simple, IsBelow}
use Rattle.lower_laws.proofs.Doing.{after}
use Rattle.lower_laws.proofs.Stayed.{simple_apart}
use Rattle.lower_laws.proofs.Typing.{place_of_none}
use Rattle.object_laws.specs.Done.{AllAsked}
use Rattle.object_laws.specs.Ghost.{Ghost}
use Rattle.object_laws.specs.Known.{Known}
use Rattle.object_laws.specs.Represents.{Represents}
use Rattle.object_laws.specs.Values as high
use Rattle.object_laws.specs.Values.{Stands, Holds, Plain, Alone, Items, Listed, Mapped, Made, Function, Missing}
use Rattle.object_laws.proofs.Passing.{Passed, none_passed, sets_more, operand_kept, is_kept_at, is_set_at, calls_at}
use Rattle.object_laws.proofs.Valued.{not_simple_made, not_simple_called, simple_is_no_list, simple_is_no_dict, simple_is_there}
use Rattle.conversion_laws.specs.Asked.{HasTo, equal_asks}
use Rattle.conversion_laws.proofs.Moving.{helper_kept}
use Rattle.conversion_laws.proofs.Testing.{test_of, ops_of, new_of, operand_of, after_one, after_two, byte_found}
use Rattle.conversion_laws.proofs.Turned.{byte_comes, byte_text}

-- ---- simple values

pub data Low (g : Ghost) : LlType → Value → Meant → Type 0 where
  word : (z : ℤ) → Low g type.Signed (Word z) (MeantWord z)
  flag : (b : Bool) → Low g type.Bool (Flag b) (MeantFlag b)
  alone : Low g type.Bool (Flag false) Nothing
  byte : (b : ℕ) → b < 256 → Low g type.Char (Byte b) (Text (b ∷ []))
  text : (x : Value) (bytes : List ℕ) → high.IsText g x bytes → Low g (type.Ptr 0) x (Text bytes)
  missing : Low g (type.Ptr 0) Null Nothing

of_stands : {g : Ghost} {t : LlType} {x : Value} {v : Meant} → Stands g t x v → Low g t x v
of_stands (high.word z f) = word z
of_stands (high.flag b) = flag b
of_stands (high.byte b h) = byte b h
of_stands (high.text x bytes t) = text x bytes t
of_stands high.missing = missing

pub simple_low : {layout : Layout} {known : Known} {g : Ghost} {seen : Option Element} {x : Value} {v : Meant} → is_simple (kind_seen seen) ≡ true → Holds layout known g seen x v → Low g (type_seen layout seen) x v
simple_low simple (Plain p s) = of_stands s
simple_low {layout = layout} {g = g} {seen = seen} {x = x} {v = v} simple (Alone k e f) =
    subst (λ t. Low g t x v) (sym (place_of_none layout seen k)) (subst (λ y. Low g type.Bool y v) (sym e) (subst (λ u. Low g type.Bool (Flag false) u) (sym f) alone))
simple_low {seen = seen} simple (Items parts n xs vs e f t is all) = absurd (simple_apart (kind_seen seen) simple (ap kind_seen e))
simple_low {seen = seen} simple (Listed n i h f t s home) = absurd (simple_is_no_list (kind_seen seen) h simple)
simple_low {seen = seen} simple (Mapped n i m h f t s home) = absurd (simple_is_no_dict (kind_seen seen) h simple)
simple_low {seen = seen} simple (Made class r c i e f b home) = absurd (not_simple_made seen class r e simple)
simple_low {seen = seen} simple (Function fs r f n e k b l y) = absurd (not_simple_called seen fs r e simple)
simple_low {seen = seen} simple (Missing h e f) = absurd (simple_is_there (kind_seen seen) h simple)

-- ---- strings

module _ {p : LlProgram} {args : List (List ℕ)} {numbers : Numbers} {f : ℕ} {core : Core} (h : HasHelper p numbers helper.StrEqual f core) where
  both_missing : (waits : List Frame) → Comes p args (Calling f (Null ∷ Null ∷ []) waits core) [] (Flag true) waits core
  both_missing waits = record { end = _; same = refl; leads = on (enter h.graph refl) (many 4 h.graph refl refl) }

  first_missing : (y : Value) (b : List ℕ) → IsText core.blocks core.statics y b → (waits : List Frame) → Comes p args (Calling f (Null ∷ y ∷ []) waits core) [] (Flag false) waits core
  first_missing y b s waits = record { end = _; same = refl; leads = on (enter h.graph refl) (on (many 2 h.graph refl (simp (is_set s))) (on (gives (Flag false) (is_there s)) (many 1 h.graph refl refl))) }

  second_missing : (x : Value) (a : List ℕ) → IsText core.blocks core.statics x a → (waits : List Frame) → Comes p args (Calling f (x ∷ Null ∷ []) waits core) [] (Flag false) waits core
  second_missing x a t waits = record { end = _; same = refl; leads = on (enter h.graph refl) (on (gives (Flag false) (is_there t)) (on (many 1 h.graph refl (simp (is_set t))) (many 3 h.graph refl refl))) }

  texts_equal : (x y : Value) (a b : List ℕ) → IsText core.blocks core.statics x a → IsText core.blocks core.statics y b → (waits : List Frame) → Comes p args (Calling f (x ∷ y ∷ []) waits core) [] (Flag (bytes_eq a b)) waits core
  texts_equal x y a b t s waits = by (nat_eq (length a) (length b)) refl
    where
      to_lengths : Leads p args 0 (Calling f (x ∷ y ∷ []) waits core) [] (At (◌∷◌ (op.Binary 2 binary.Eq (Var 3) (Var 4)) []) (fork 2 4 (Var 0 ∷ Var 1 ∷ Var 3 ∷ []) 5 []) waits (record core { function = f; block = 3; at = 2; vars = x ∷ y ∷ Flag false ∷ Word (pos (length a)) ∷ Word (pos (length b)) ∷ [] }))
      to_lengths = on (enter h.graph refl) (on (gives (Flag false) (is_there t)) (on (many 1 h.graph refl (simp (is_set t, is_set s))) (on (gives (Flag false) (is_there s)) (on (many 1 h.graph refl (simp (is_set t, is_set s))) (on (gets_length h.text t) (gets_length h.text s))))))

      by : (c : Bool) → nat_eq (length a) (length b) ≡ c → Comes p args (Calling f (x ∷ y ∷ []) waits core) [] (Flag (bytes_eq a b)) waits core
      by true e =
          let len : length a ≡ length b = grind (arith, nat_tests, e) in
          record {
            end = _;
            same = refl;
            leads = on to_lengths (on (gives (Flag true) (ap (λ t. Ok (Flag t)) (same_numbers (length a) (length b) true e))) (on (many 1 h.graph refl (simp (is_set t, is_set s)))
                (on (call (simp (is_set t, is_set s)) (λ waits. compares p args numbers.alike_bytes (h.shared shared.AlikeBytes refl) h.text waits _ x y [] a [] [] b [] 0 0 (length a)
                (subst (IsText core.blocks core.statics x) (sym (append-nil a)) t) (subst (IsText core.blocks core.statics y) (sym (append-nil b)) s) (sym len) refl refl refl (omega (arith, t.short)) (omega (arith, t.short))))
                (many 1 h.graph refl refl))));
          }
      by false e =
          let other : bytes_eq a b ≡ false = other_length a b (λ q. (let z : nat_eq (length a) (length b) ≡ true = grind (arith, nat_tests, q) in let y : true ≡ false = sym z ∙ e in absurd (cc))) in
          subst (λ c. Comes p args (Calling f (x ∷ y ∷ []) waits core) [] (Flag c) waits core) (sym other) (record {
            end = _;
            same = refl;
            leads = on to_lengths (on (gives (Flag false) (ap (λ t. Ok (Flag t)) (same_numbers (length a) (length b) false e))) (many 2 h.graph refl refl));
          })

-- ---- what is told

pub record Told (p : LlProgram) (args : List (List ℕ)) (s : State) (rest : List LlOp) (e : LlExit) (frames : List Frame) (core : Core) (below : ℕ) (y : COperand) (c : Bool) : Type 0 where
  pub mid : Core
  pub way : Leads p args 0 s [] (At rest e frames mid)
  pub passed : Passed below core mid
  pub is : operand mid.vars y ≡ Flag c

module _ {p : LlProgram} {args : List (List ℕ)} {s : State} {rest : List LlOp} {e : LlExit} {frames : List Frame} {core : Core} where
  -- one variable is set
  pub told_one : (m : ℕ) (c : Bool) → m < length core.vars → Leads p args 0 s [] (At rest e frames (after core m (Flag c))) → Told p args s rest e frames core m (Var m) c
  told_one m c inside way = record { mid = after core m (Flag c); way = way; passed = sets_more m (Flag c) (omega arith) none_passed; is = is_set_at core m (Flag c) inside }

some_is : (b c : Bool) → Some b ≡ Some c → b ≡ c
some_is b c h = (let q : b ≡ c = cc in q)

flags_equal : (a b : Bool) → binary_of binary.Beq (Flag a) (Flag b) ≡ Ok (Flag (same_flag a b))
flags_equal true true = refl
flags_equal true false = refl
flags_equal false true = refl
flags_equal false false = refl

binary_at : (vars : List Value) (o : CBinary) (x y : COperand) (a b v : Value) → operand vars x ≡ a → operand vars y ≡ b → binary_of o a b ≡ Ok v → binary_of o (operand vars x) (operand vars y) ≡ Ok v
binary_at vars o x y a b v ex ey h = ap (λ a. binary_of o a (operand vars y)) ex ∙ ap (λ b. binary_of o a b) ey ∙ h

module _ {layout : Layout} {known : Known} (k : ℕ) (x y : COperand) (w : Writing) (p : LlProgram) (numbers : Numbers) (raised : ℕ → Value) (arguments : List (List ℕ)) (rest : List LlOp) (e : LlExit) (frames : List Frame) (core : Core) (g : Ghost) (heap : Heap) (left : ℕ)
    (r : Represents layout known g heap left core.blocks core.statics) (under_x : IsBelow (length w.body.types) x) (under_y : IsBelow (length w.body.types) y) where
  abbrev M : ℕ
  M = length w.body.types

  text_there : (a : Value) (bytes : List ℕ) → high.IsText g a bytes → IsText core.blocks core.statics a bytes
  text_there a bytes t = record { is = r.stays a _ t.is; short = t.short; small = t.small }

  next_is : (t : LlType) → after_one t w ≡ M + 1
  next_is t = length-append w.body.types (t ∷ [])

  one_test : (o : CBinary) (x y : COperand) (a b : Value) (c : Bool) → operand core.vars x ≡ a → operand core.vars y ≡ b → binary_of o a b ≡ Ok (Flag c) → M + 1 ≤ length core.vars
      → Told p arguments (At (op.Binary M o x y ∷ rest) e frames core) rest e frames core M (Var M) c
  one_test o x y a b c ex ey h room = told_one M c (omega (arith, room)) (gives (Flag c) (binary_at core.vars o x y a b (Flag c) ex ey h))

  -- bytes are compared by their numbers
  pub byte_test : (o : CBinary) (a b : ℕ) (c : Bool) → operand core.vars x ≡ Byte a → operand core.vars y ≡ Byte b → binary_of o (Word (pos a)) (Word (pos b)) ≡ Ok (Flag c) → M + 3 ≤ length core.vars
      → Told p arguments (At (op.Unary M unary.C2S x ∷ op.Unary (after_one type.Signed w) unary.C2S y ∷ op.Binary (after_two w) o (Var M) (Var (after_one type.Signed w)) ∷ rest) e frames core) rest e frames core M (Var (after_two w)) c
  byte_test o a b c ex ey h room =
      let N : ℕ = after_one type.Signed w in
      let L : ℕ = after_two w in
      let n : N ≡ M + 1 = next_is type.Signed in
      let l : L ≡ N + 1 = length-append (w.body.types ++ type.Signed ∷ []) (type.Signed ∷ []) in
      let mid1 : Core = after core M (Word (pos a)) in
      let mid2 : Core = after mid1 N (Word (pos b)) in
      let passed1 : Passed M core mid1 = sets_more M (Word (pos a)) (omega arith) none_passed in
      let passed2 : Passed M core mid2 = sets_more N (Word (pos b)) (omega (arith, n)) passed1 in
      let room1 : length mid1.vars ≡ length core.vars = passed1.room in
      let room2 : length mid2.vars ≡ length core.vars = passed2.room in
      let y1 : operand mid1.vars y ≡ Byte b = operand_kept passed1 y under_y ∙ ey in
      let first : operand mid2.vars (Var M) ≡ Word (pos a) = is_kept_at mid1 N M (Word (pos b)) (λ same. absurd (omega (arith, n, same))) ∙ is_set_at core M (Word (pos a)) (omega (arith, room)) in
      let second : operand mid2.vars (Var N) ≡ Word (pos b) = is_set_at mid1 N (Word (pos b)) (omega (arith, room, room1, n)) in
      record {
        mid = after mid2 L (Flag c);
        way = on (turns (Word (pos a)) (ap (unary_of unary.C2S) ex)) (on (turns (Word (pos b)) (ap (unary_of unary.C2S) y1)) (gives (Flag c) (binary_at mid2.vars o (Var M) (Var N) (Word (pos a)) (Word (pos b)) (Flag c) first second h)));
        passed = sets_more L (Flag c) (omega (arith, n, l)) passed2;
        is = is_set_at mid2 L (Flag c) (omega (arith, room, room2, n, l));
      }

  -- the string of a byte, and another
  byte_first : (a : ℕ) (b : Value) (c : Bool) → a < 256 → operand core.vars x ≡ Byte a → operand core.vars y ≡ b → is_unset b ≡ false → HasHelper p numbers helper.StrOfChar (helper_number helper.StrOfChar w.found).0 core
      → ((core1 : Core) (waits : List Frame) → core1.blocks ≡ core.blocks → core1.statics ≡ core.statics → HasHelper p numbers helper.StrEqual (helper_number helper.StrEqual (byte_found w)).0 core1
      → Comes p arguments (Calling (helper_number helper.StrEqual (byte_found w)).0 (Static (a + 1) ∷ b ∷ []) waits core1) [] (Flag c) waits core1)
      → HasHelper p numbers helper.StrEqual (helper_number helper.StrEqual (byte_found w)).0 core → M + 2 ≤ length core.vars
      → Told p arguments (At (op.Call (Some M) (helper_number helper.StrOfChar w.found).0 (x ∷ []) ∷ op.Call (Some (after_one (type.Ptr 0) w)) (helper_number helper.StrEqual (byte_found w)).0 (Var M ∷ y ∷ []) ∷ rest) e frames core) rest e frames core M (Var (after_one (type.Ptr 0) w)) c
  byte_first a b c small ex ey set chars goes equals room =
      let N : ℕ = after_one (type.Ptr 0) w in
      let n : N ≡ M + 1 = next_is (type.Ptr 0) in
      let mid1 : Core = after core M (Static (a + 1)) in
      let passed1 : Passed M core mid1 = sets_more M (Static (a + 1)) (omega arith) none_passed in
      let room1 : length mid1.vars ≡ length core.vars = passed1.room in
      let first : operand mid1.vars (Var M) ≡ Static (a + 1) = is_set_at core M (Static (a + 1)) (omega (arith, room)) in
      let second : operand mid1.vars y ≡ b = operand_kept passed1 y under_y ∙ ey in
      record {
        mid = after mid1 N (Flag c);
        way = on (calls_at (ap (λ v. v ∷ []) ex) refl (byte_comes chars a small))
            (calls_at (ap (λ v. v ∷ operand mid1.vars y ∷ []) first ∙ ap (λ v. Static (a + 1) ∷ v ∷ []) second) (ap (λ c. c || false) set) (λ waits. goes mid1 waits refl refl (helper_kept refl refl equals)));
        passed = sets_more N (Flag c) (omega (arith, n)) passed1;
        is = is_set_at mid1 N (Flag c) (omega (arith, room, room1, n));
      }

  byte_second : (b : ℕ) (a : Value) (c : Bool) → b < 256 → operand core.vars y ≡ Byte b → operand core.vars x ≡ a → is_unset a ≡ false → HasHelper p numbers helper.StrOfChar (helper_number helper.StrOfChar w.found).0 core
      → ((core1 : Core) (waits : List Frame) → core1.blocks ≡ core.blocks → core1.statics ≡ core.statics → HasHelper p numbers helper.StrEqual (helper_number helper.StrEqual (byte_found w)).0 core1
      → Comes p arguments (Calling (helper_number helper.StrEqual (byte_found w)).0 (a ∷ Static (b + 1) ∷ []) waits core1) [] (Flag c) waits core1)
      → HasHelper p numbers helper.StrEqual (helper_number helper.StrEqual (byte_found w)).0 core → M + 2 ≤ length core.vars
      → Told p arguments (At (op.Call (Some M) (helper_number helper.StrOfChar w.found).0 (y ∷ []) ∷ op.Call (Some (after_one (type.Ptr 0) w)) (helper_number helper.StrEqual (byte_found w)).0 (x ∷ Var M ∷ []) ∷ rest) e frames core) rest e frames core M (Var (after_one (type.Ptr 0) w)) c
  byte_second b a c small ey ex set chars goes equals room =
      let N : ℕ = after_one (type.Ptr 0) w in
      let n : N ≡ M + 1 = next_is (type.Ptr 0) in
      let mid1 : Core = after core M (Static (b + 1)) in
      let passed1 : Passed M core mid1 = sets_more M (Static (b + 1)) (omega arith) none_passed in
      let room1 : length mid1.vars ≡ length core.vars = passed1.room in
      let second : operand mid1.vars (Var M) ≡ Static (b + 1) = is_set_at core M (Static (b + 1)) (omega (arith, room)) in
      let first : operand mid1.vars x ≡ a = operand_kept passed1 x under_x ∙ ex in
      record {
        mid = after mid1 N (Flag c);
        way = on (calls_at (ap (λ v. v ∷ []) ey) refl (byte_comes chars b small))
            (calls_at (ap (λ v. v ∷ operand mid1.vars (Var M) ∷ []) first ∙ ap (λ v. a ∷ v ∷ []) second) (ap (λ c. c || false) set) (λ waits. goes mid1 waits refl refl (helper_kept refl refl equals)));
        passed = sets_more N (Flag c) (omega (arith, n)) passed1;
        is = is_set_at mid1 N (Flag c) (omega (arith, room, room1, n));
      }

  -- two strings
  text_test : (a b : Value) (c : Bool) → operand core.vars x ≡ a → operand core.vars y ≡ b → any_unset (a ∷ b ∷ []) ≡ false → ((waits : List Frame) → Comes p arguments (Calling (helper_number helper.StrEqual w.found).0 (a ∷ b ∷ []) waits core) [] (Flag c) waits core) → M + 1 ≤ length core.vars
      → Told p arguments (At (op.Call (Some M) (helper_number helper.StrEqual w.found).0 (x ∷ y ∷ []) ∷ rest) e frames core) rest e frames core M (Var M) c
  text_test a b c ex ey set goes room = told_one M c (omega (arith, room)) (calls_at (ap (λ v. v ∷ operand core.vars y ∷ []) ex ∙ ap (λ v. a ∷ v ∷ []) ey) set goes)

  both_set : (a b : Value) → is_unset a ≡ false → is_unset b ≡ false → any_unset (a ∷ b ∷ []) ≡ false
  both_set a b h k = ap (λ c. c || (is_unset b || false)) h ∙ ap (λ c. c || false) k

  byte_static : (a : ℕ) (core1 : Core) → a < 256 → HasHelper p numbers helper.StrOfChar (helper_number helper.StrOfChar w.found).0 core → core1.blocks ≡ core.blocks → core1.statics ≡ core.statics → IsText core1.blocks core1.statics (Static (a + 1)) (a ∷ [])
  byte_static a core1 small chars bs ss = subst (λ bs. IsText bs core1.statics (Static (a + 1)) (a ∷ [])) (sym bs) (subst (λ ss. IsText core.blocks ss (Static (a + 1)) (a ∷ [])) (sym ss) (text_there (Static (a + 1)) (a ∷ []) (byte_text chars a small r)))

  text_later : (a : Value) (bytes : List ℕ) (core1 : Core) → high.IsText g a bytes → core1.blocks ≡ core.blocks → core1.statics ≡ core.statics → IsText core1.blocks core1.statics a bytes
  text_later a bytes core1 t bs ss = subst (λ bs. IsText bs core1.statics a bytes) (sym bs) (subst (λ ss. IsText core.blocks ss a bytes) (sym ss) (text_there a bytes t))

  pub told : {s t : LlType} {a b : Value} {u v : Meant} (c : Bool) → Low g s a u → Low g t b v → operand core.vars x ≡ a → operand core.vars y ≡ b → equal u v ≡ Some c → AllAsked (HasTo p layout numbers raised core (suc k)) (equal_asks layout s t) w.found
      → M + length (new_of (test_of layout s t)) ≤ length core.vars → Told p arguments (At (ops_of (test_of layout s t) x y w ++ rest) e frames core) rest e frames core M (operand_of (test_of layout s t) w) c
  told c (word i) (word j) ex ey h has room = one_test binary.Eq x y (Word i) (Word j) c ex ey (ap (λ c. Ok (Flag c)) (some_is (int_eq i j) c h)) room
  told c (flag i) (flag j) ex ey h has room = one_test binary.Beq x y (Flag i) (Flag j) c ex ey (flags_equal i j ∙ ap (λ c. Ok (Flag c)) (some_is (same_flag i j) c h)) room
  told c alone alone ex ey h has room = one_test binary.Beq x y (Flag false) (Flag false) c ex ey (ap (λ c. Ok (Flag c)) (some_is true c h)) room
  told c (byte i s) (byte j t) ex ey h has room = byte_test binary.Eq i j c ex ey (ap (λ c. Ok (Flag c)) (same_numbers i j c (byte_same i j c h))) room
    where
      byte_same : (i j : ℕ) (c : Bool) → Some (bytes_eq (i ∷ []) (j ∷ [])) ≡ Some c → nat_eq i j ≡ c
      byte_same i j c h = and_true (nat_eq i j) ∙ some_is (bytes_eq (i ∷ []) (j ∷ [])) c h
        where
          and_true : (b : Bool) → b ≡ (b && true)
          and_true true = refl
          and_true false = refl
  told c (byte i s) (text b bytes t) ex ey h has room =
      byte_first i b c s ex ey (is_set (text_there b bytes t)) has.0
      (λ core1 waits bs ss equals. subst (λ c. Comes p arguments (Calling (helper_number helper.StrEqual (byte_found w)).0 (Static (i + 1) ∷ b ∷ []) waits core1) [] (Flag c) waits core1) (some_is (bytes_eq (i ∷ []) bytes) c h) (texts_equal equals (Static (i + 1)) b (i ∷ []) bytes (byte_static i core1 s has.0 bs ss) (text_later b bytes core1 t bs ss) waits))
      has.1.0 room
  told c (byte i s) missing ex ey h has room =
      byte_first i Null c s ex ey refl has.0
      (λ core1 waits bs ss equals. subst (λ c. Comes p arguments (Calling (helper_number helper.StrEqual (byte_found w)).0 (Static (i + 1) ∷ Null ∷ []) waits core1) [] (Flag c) waits core1) (some_is false c h) (second_missing equals (Static (i + 1)) (i ∷ []) (byte_static i core1 s has.0 bs ss) waits))
      has.1.0 room
  told c (text a bytes t) (byte j s) ex ey h has room =
      byte_second j a c s ey ex (is_set (text_there a bytes t)) has.0
      (λ core1 waits bs ss equals. subst (λ c. Comes p arguments (Calling (helper_number helper.StrEqual (byte_found w)).0 (a ∷ Static (j + 1) ∷ []) waits core1) [] (Flag c) waits core1) (some_is (bytes_eq bytes (j ∷ [])) c h) (texts_equal equals a (Static (j + 1)) bytes (j ∷ []) (text_later a bytes core1 t bs ss) (byte_static j core1 s has.0 bs ss) waits))
      has.1.0 room
  told c missing (byte j s) ex ey h has room =
      byte_second j Null c s ey ex refl has.0
      (λ core1 waits bs ss equals. subst (λ c. Comes p arguments (Calling (helper_number helper.StrEqual (byte_found w)).0 (Null ∷ Static (j + 1) ∷ []) waits core1) [] (Flag c) waits core1) (some_is false c h) (first_missing equals (Static (j + 1)) (j ∷ []) (byte_static j core1 s has.0 bs ss) waits))
      has.1.0 room
  told c (text a bits s) (text b bs t) ex ey h has room =
      text_test a b c ex ey (both_set a b (is_set (text_there a bits s)) (is_set (text_there b bs t))) (λ waits. subst (λ c. Comes p arguments (Calling (helper_number helper.StrEqual w.found).0 (a ∷ b ∷ []) waits core) [] (Flag c) waits core) (some_is (bytes_eq bits bs) c h) (texts_equal has.0 a b bits bs (text_there a bits s) (text_there b bs t) waits)) room
  told c (text a bits s) missing ex ey h has room =
      text_test a Null c ex ey (both_set a Null (is_set (text_there a bits s)) refl) (λ waits. subst (λ c. Comes p arguments (Calling (helper_number helper.StrEqual w.found).0 (a ∷ Null ∷ []) waits core) [] (Flag c) waits core) (some_is false c h) (second_missing has.0 a bits (text_there a bits s) waits)) room
  told c missing (text b bs t) ex ey h has room =
      text_test Null b c ex ey (both_set Null b refl (is_set (text_there b bs t))) (λ waits. subst (λ c. Comes p arguments (Calling (helper_number helper.StrEqual w.found).0 (Null ∷ b ∷ []) waits core) [] (Flag c) waits core) (some_is false c h) (first_missing has.0 b bs (text_there b bs t) waits)) room
  told c missing missing ex ey h has room =
      text_test Null Null c ex ey refl (λ waits. subst (λ c. Comes p arguments (Calling (helper_number helper.StrEqual w.found).0 (Null ∷ Null ∷ []) waits core) [] (Flag c) waits core) (some_is true c h) (both_missing has.0 waits)) room
  told c alone (text b bs t) ex ey h has room = one_test binary.Peq y null b Null c ey refl (is_there (text_there b bs t) ∙ ap (λ c. Ok (Flag c)) (some_is false c h)) room
  told c alone missing ex ey h has room = one_test binary.Peq y null Null Null c ey refl (ap (λ c. Ok (Flag c)) (some_is true c h)) room
  told c (text a bits s) alone ex ey h has room = one_test binary.Peq x null a Null c ex refl (is_there (text_there a bits s) ∙ ap (λ c. Ok (Flag c)) (some_is false c h)) room
  told c missing alone ex ey h has room = one_test binary.Peq x null Null Null c ex refl (ap (λ c. Ok (Flag c)) (some_is true c h)) room
  told c alone (byte j s) ex ey h has room = record { mid = core; way = rests; passed = none_passed; is = ap Flag (some_is false c h) }
  told c (byte i s) alone ex ey h has room = record { mid = core; way = rests; passed = none_passed; is = ap Flag (some_is false c h) }
  told c _ _ ex ey h has room = absurd (cc)
