-- Declarations are read as they are spelled.
use Rattle.std.proofs.Common.{◌≡◌, ℕ, zero, suc, ◌+◌, ◌^◌, ◌<◌, ◌≤◌, Bool, true, false, List, [], ◌∷◌, ◌++◌, Option, Some, None, refl, ap, ◌∙◌, arith, append_assoc, length, length-append, codes}
use Rattle.std.specs.Fmt.{decimal}
use Rattle.csub_tree.specs.declared.tree.CType.{CType}
use Rattle.csub_tree.specs.declared.tree.CType.TheVariants as type
use Rattle.csub_tree.specs.Spelling as spell
use Rattle.csub_text.specs.Written.{All, IsNumberIfAny, IsType, IsTypeIfAny}
use Rattle.csub_text.specs.Read.{Got, begins}
use Rattle.csub_text.specs.ReadFile as of
use Rattle.csub_text.specs.ReadFile.{parts_while, some_while, base_line, field_line, field_lines, items_line, struct_text, parameter, more_parameter, parameters, head, prototype}
use Rattle.csub_text.proofs.Numbers.{ends, stripped_own, number_own}
use Rattle.csub_text.proofs.Names.{before_name_own, result_before_name_own}
use Rattle.csub_text.proofs.Statements.{two, three}

-- an inner line with a type and a numbered name
pub seven_of : (i t a n e l r : List ℕ) → (i ++ (t ++ (a ++ n) ++ e) ++ l) ++ r ≡ i ++ (t ++ (a ++ (n ++ (e ++ (l ++ r)))))
seven_of i t a n e l r = simp append_assoc

three_of : (a b c r : List ℕ) → (a ++ (b ++ c)) ++ r ≡ a ++ (b ++ (c ++ r))
three_of a b c r = simp append_assoc

longer_parameter : (a r : List ℕ) → suc (length r) ≤ length ((codes ", " ++ a) ++ r)
longer_parameter a r =
    let e : length ((codes ", " ++ a) ++ r) ≡ length (codes ", " ++ a) + length r = length-append (codes ", " ++ a) r in
    omega (arith, e)

-- parts that are counted
pub record Counted {A : Type 0} (test : List ℕ → Bool) (text : ℕ → A → List ℕ) (read : ℕ → List ℕ → Got A) (ok : A → Type 0) : Type 0 where
  pub one : (k : ℕ) (x : A) (r : List ℕ) → ok x → ends r ≡ true → read k (text k x ++ r) ≡ Some (x, r)
  pub sees : (k : ℕ) (x : A) (r : List ℕ) → ok x → ends r ≡ true → test (text k x ++ r) ≡ true
  pub open_end : (k : ℕ) (x : A) (r : List ℕ) → ends (text k x ++ r) ≡ true
  pub some : (k : ℕ) (x : A) (r : List ℕ) → suc (length r) ≤ length (text k x ++ r)

pub ends_parts : {A : Type 0} (test : List ℕ → Bool) (text : ℕ → A → List ℕ) (read : ℕ → List ℕ → Got A) (ok : A → Type 0) → Counted test text read ok → (k : ℕ) (xs : List A) (r : List ℕ) → ends r ≡ true → ends (spell.numbered text k xs ++ r) ≡ true
ends_parts test text read ok h k [] r e = e
ends_parts test text read ok h k (x ∷ xs) r e = ap ends (append_assoc (text k x) (spell.numbered text (k + 1) xs) r) ∙ h.open_end k x (spell.numbered text (k + 1) xs ++ r)

pub while_own : {A : Type 0} (test : List ℕ → Bool) (text : ℕ → A → List ℕ) (read : ℕ → List ℕ → Got A) (ok : A → Type 0) → Counted test text read ok
    → (f k : ℕ) (xs : List A) (r : List ℕ) → length xs ≤ f → All ok xs → ends r ≡ true → test r ≡ false → parts_while test read f k (spell.numbered text k xs ++ r) ≡ Some (xs, r)
unfolding parts_while
while_own test text read ok h zero k [] r few all e done = refl
while_own test text read ok h (suc f) k [] r few all e done = rw done refl
while_own test text read ok h zero k (x ∷ xs) r few all e done = absurd (omega arith)
while_own test text read ok h (suc f) k (x ∷ xs) r few all e done =
    let after : ends (spell.numbered text (k + 1) xs ++ r) ≡ true = ends_parts test text read ok h (k + 1) xs r e in
    ap (parts_while test read (suc f) k) (append_assoc (text k x) (spell.numbered text (k + 1) xs) r)
    ∙ rw (h.sees k x (spell.numbered text (k + 1) xs ++ r) all.0 after, h.one k x (spell.numbered text (k + 1) xs ++ r) all.0 after, while_own test text read ok h f (k + 1) xs r (omega arith) all.1 e done) refl

pub parts_fit : {A : Type 0} (test : List ℕ → Bool) (text : ℕ → A → List ℕ) (read : ℕ → List ℕ → Got A) (ok : A → Type 0) → Counted test text read ok → (k : ℕ) (xs : List A) (r : List ℕ) → length xs + length r ≤ length (spell.numbered text k xs ++ r)
parts_fit test text read ok h k [] r = omega arith
parts_fit test text read ok h k (x ∷ xs) r =
    let e : (text k x ++ spell.numbered text (k + 1) xs) ++ r ≡ text k x ++ (spell.numbered text (k + 1) xs ++ r) = append_assoc (text k x) (spell.numbered text (k + 1) xs) r in
    let more = h.some k x (spell.numbered text (k + 1) xs ++ r) in
    let before = parts_fit test text read ok h (k + 1) xs r in
    rw e (omega arith)

pub all_own : {A : Type 0} (test : List ℕ → Bool) (text : ℕ → A → List ℕ) (read : ℕ → List ℕ → Got A) (ok : A → Type 0) → Counted test text read ok
    → (k : ℕ) (xs : List A) (r : List ℕ) → All ok xs → ends r ≡ true → test r ≡ false → parts_while test read (length (spell.numbered text k xs ++ r)) k (spell.numbered text k xs ++ r) ≡ Some (xs, r)
all_own test text read ok h k xs r all e done =
    let few = parts_fit test text read ok h k xs r in
    while_own test text read ok h (length (spell.numbered text k xs ++ r)) k xs r (omega arith) all e done

-- one or more
pub some_own : {A : Type 0} (test : List ℕ → Bool) (text : ℕ → A → List ℕ) (read : ℕ → List ℕ → Got A) (ok : A → Type 0) → Counted test text read ok
    → (f k : ℕ) (first : Bool) (xs : List A) (r : List ℕ) → length xs < f → All ok xs → ends r ≡ true → test r ≡ false → first ≡ false → some_while test read f k first (spell.numbered text k xs ++ r) ≡ Some (xs, r)
unfolding some_while
some_own test text read ok h zero k first xs r few all e done is = absurd (omega arith)
some_own test text read ok h (suc f) k first [] r few all e done is = rw (is, done) refl
some_own test text read ok h (suc f) k first (x ∷ xs) r few all e done is =
    let after : ends (spell.numbered text (k + 1) xs ++ r) ≡ true = ends_parts test text read ok h (k + 1) xs r e in
    ap (some_while test read (suc f) k first) (append_assoc (text k x) (spell.numbered text (k + 1) xs) r)
    ∙ rw (is, h.sees k x (spell.numbered text (k + 1) xs ++ r) all.0 after, h.one k x (spell.numbered text (k + 1) xs ++ r) all.0 after, some_own test text read ok h f (k + 1) false xs r (omega arith) all.1 e done refl) refl

-- ---- structs

pub field_own : (k : ℕ) (t : CType) (r : List ℕ) → IsType t → field_line k (spell.field_line k t ++ r) ≡ Some (t, r)
unfolding field_line
field_own k t r ok =
    ap (field_line k) (seven_of (codes "    ") (spell.before_name t) (codes "a") (decimal k) (codes ";") (codes "\n") r)
    ∙ rw (before_name_own t (codes "a" ++ (decimal k ++ (codes ";\n" ++ r))) ok, stripped_own (decimal k) (codes ";\n" ++ r)) refl

pub sees_field : (k : ℕ) (t : CType) (r : List ℕ) → IsType t → of.sees_field_line (spell.field_line k t ++ r) ≡ true
sees_field k t r ok =
    ap of.sees_field_line (seven_of (codes "    ") (spell.before_name t) (codes "a") (decimal k) (codes ";") (codes "\n") r)
    ∙ rw (before_name_own t (codes "a" ++ (decimal k ++ (codes ";\n" ++ r))) ok) refl

-- a line with four spaces at the front is longer than what follows it
pub longer : (a r : List ℕ) → suc (length r) ≤ length ((codes "    " ++ a ++ codes "\n") ++ r)
longer a r =
    let e : length ((codes "    " ++ a ++ codes "\n") ++ r) ≡ length (codes "    " ++ a ++ codes "\n") + length r = length-append (codes "    " ++ a ++ codes "\n") r in
    let f : length (a ++ codes "\n") ≡ length a + length (codes "\n") = length-append a (codes "\n") in
    omega (arith, e, f)

fields : Counted of.sees_field_line spell.field_line field_line IsType
fields = record {
  one = λ k t r ok e. field_own k t r ok;
  sees = λ k t r ok e. sees_field k t r ok;
  open_end = λ k t r. refl;
  some = λ k t r. longer (spell.before_name t ++ spell.field_name k ++ codes ";") r;
}

-- what follows the fields
abbrev tail : Option CType → List ℕ → List ℕ
tail items r = spell.items_line items ++ (codes "};\n" ++ r)

pub items_of : (i t n l r : List ℕ) → (i ++ (t ++ n) ++ l) ++ r ≡ i ++ (t ++ (n ++ (l ++ r)))
items_of i t n l r = simp append_assoc

items_own : (items : Option CType) (r : List ℕ) → IsTypeIfAny items → items_line (tail items r) ≡ Some (items, codes "};\n" ++ r)
unfolding items_line
items_own None r ok = refl
items_own (Some t) r ok =
    ap items_line (items_of (codes "    ") (spell.before_name t) (codes "items[];") (codes "\n") (codes "};\n" ++ r))
    ∙ rw (before_name_own t (codes "items[];\n};\n" ++ r) ok) refl

no_field : (items : Option CType) (r : List ℕ) → IsTypeIfAny items → of.sees_field_line (tail items r) ≡ false
no_field None r ok = refl
no_field (Some t) r ok =
    ap of.sees_field_line (items_of (codes "    ") (spell.before_name t) (codes "items[];") (codes "\n") (codes "};\n" ++ r))
    ∙ rw (before_name_own t (codes "items[];\n};\n" ++ r) ok) refl

ends_tail : (items : Option CType) (r : List ℕ) → ends (tail items r) ≡ true
ends_tail None r = refl
ends_tail (Some t) r = refl

fields_own : (k : ℕ) (ts : List CType) (items : Option CType) (r : List ℕ) → All IsType ts → IsTypeIfAny items
    → field_lines k (spell.numbered spell.field_line k ts ++ tail items r) ≡ Some (ts, tail items r)
unfolding field_lines
fields_own k ts items r all ok = all_own of.sees_field_line spell.field_line field_line IsType fields k ts (tail items r) all (ends_tail items r) (no_field items r ok)

-- a type with a name behind it is no inline base
pub no_base_type : (t : CType) (r : List ℕ) → IsType t → of.sees_base_line (codes "    " ++ (spell.before_name t ++ r)) ≡ false
no_base_type type.Signed r ok = refl
no_base_type type.Char r ok = refl
no_base_type type.Bool r ok = refl
no_base_type type.Fn r ok = refl
no_base_type (type.Ptr n) r ok =
    ap (λ i. of.sees_base_line (codes "    struct s" ++ i)) (two (decimal n) (codes " *") r) ∙ rw (number_own (2 ^ 64) n (codes " *" ++ r) ok ok refl) refl

no_base : (ts : List CType) (items : Option CType) (r : List ℕ) → All IsType ts → IsTypeIfAny items → of.sees_base_line (spell.numbered spell.field_line 0 ts ++ tail items r) ≡ false
no_base [] None r all ok = refl
no_base [] (Some t) r all ok =
    ap of.sees_base_line (items_of (codes "    ") (spell.before_name t) (codes "items[];") (codes "\n") (codes "};\n" ++ r))
    ∙ no_base_type t (codes "items[];\n};\n" ++ r) ok
no_base (t ∷ ts) items r all ok =
    ap of.sees_base_line (two (spell.field_line 0 t) (spell.numbered spell.field_line 1 ts) (tail items r)
    ∙ seven_of (codes "    ") (spell.before_name t) (codes "a") (decimal 0) (codes ";") (codes "\n") (spell.numbered spell.field_line 1 ts ++ tail items r))
    ∙ no_base_type t (codes "a" ++ (decimal 0 ++ (codes ";\n" ++ (spell.numbered spell.field_line 1 ts ++ tail items r)))) all.0

pub base_pieces : (i s n a l r : List ℕ) → (i ++ ((s ++ n) ++ a) ++ l) ++ r ≡ i ++ (s ++ (n ++ (a ++ (l ++ r))))
base_pieces i s n a l r = simp append_assoc

base_some : (m : ℕ) (r : List ℕ) → m < 2 ^ 64 → base_line (spell.base_line (Some m) ++ r) ≡ Some (Some m, r)
unfolding base_line
base_some m r ok =
    ap base_line (base_pieces (codes "    ") (codes "struct s") (decimal m) (codes " a0;") (codes "\n") r) ∙ rw (number_own (2 ^ 64) m (codes " a0;\n" ++ r) ok ok refl) refl

base_none : (r : List ℕ) → of.sees_base_line r ≡ false → base_line r ≡ Some (None, r)
unfolding base_line
base_none r e = rw e refl

base_own : (base : Option ℕ) (ts : List CType) (items : Option CType) (r : List ℕ) → IsNumberIfAny base → All IsType ts → IsTypeIfAny items
    → base_line (spell.base_line base ++ (spell.numbered spell.field_line (spell.first_field base) ts ++ tail items r)) ≡ Some (base, spell.numbered spell.field_line (spell.first_field base) ts ++ tail items r)
base_own None ts items r ok all ok_i = base_none (spell.numbered spell.field_line 0 ts ++ tail items r) (no_base ts items r all ok_i)
base_own (Some m) ts items r ok all ok_i = base_some m (spell.numbered spell.field_line 1 ts ++ tail items r) ok

struct_pieces : (s n o l b f i e r : List ℕ) → (((s ++ n) ++ o ++ l) ++ b ++ f ++ i ++ e) ++ r ≡ s ++ (n ++ (o ++ (l ++ (b ++ (f ++ (i ++ (e ++ r)))))))
struct_pieces s n o l b f i e r = simp append_assoc

pub struct_own : (n : ℕ) (base : Option ℕ) (ts : List CType) (items : Option CType) (r : List ℕ) → IsNumberIfAny base → All IsType ts → IsTypeIfAny items
    → struct_text n (spell.struct_text n (record { base = base; fields = ts; items = items }) ++ r) ≡ Some (record { base = base; fields = ts; items = items }, r)
unfolding struct_text
struct_own n base ts items r ok all ok_i =
    ap (struct_text n) (struct_pieces (codes "struct s") (decimal n) (codes " {") (codes "\n") (spell.base_line base) (spell.numbered spell.field_line (spell.first_field base) ts) (spell.items_line items) (codes "};\n") r)
    ∙ rw (
      stripped_own (decimal n) (codes " {\n" ++ (spell.base_line base ++ (spell.numbered spell.field_line (spell.first_field base) ts ++ tail items r))),
      base_own base ts items r ok all ok_i,
      fields_own (spell.first_field base) ts items r all ok_i,
      items_own items r ok_i,
    ) refl

-- ---- heads of functions

pub parameter_own : (k : ℕ) (t : CType) (r : List ℕ) → IsType t → parameter k (spell.parameter k t ++ r) ≡ Some (t, r)
unfolding parameter
parameter_own k t r ok =
    ap (parameter k) (three_of (spell.before_name t) (codes "v") (decimal k) r)
    ∙ rw (before_name_own t (codes "v" ++ (decimal k ++ r)) ok, stripped_own (decimal k) r) refl

more_parameter_own : (k : ℕ) (t : CType) (r : List ℕ) → IsType t → more_parameter k (spell.more_parameter k t ++ r) ≡ Some (t, r)
unfolding more_parameter
more_parameter_own k t r ok = ap (more_parameter k) (two (codes ", ") (spell.parameter k t) r) ∙ parameter_own k t r ok

more_parameters : Counted (begins (codes ", ")) spell.more_parameter more_parameter IsType
more_parameters = record {
  one = λ k t r ok e. more_parameter_own k t r ok;
  sees = λ k t r ok e. refl;
  open_end = λ k t r. refl;
  some = λ k t r. longer_parameter (spell.parameter k t) r;
}

no_void : (t : CType) (r : List ℕ) → begins (codes "void") (spell.before_name t ++ r) ≡ false
no_void type.Signed r = refl
no_void type.Char r = refl
no_void type.Bool r = refl
no_void type.Fn r = refl
no_void (type.Ptr n) r = refl

parameters_own : (ts : List CType) (r : List ℕ) → All IsType ts → parameters (spell.parameters ts ++ (codes ")" ++ r)) ≡ Some (ts, codes ")" ++ r)
unfolding parameters
parameters_own [] r all = refl
parameters_own (t ∷ ts) r all =
    let rest : List ℕ = spell.numbered spell.more_parameter 1 ts ++ (codes ")" ++ r) in
    ap parameters (two (spell.parameter 0 t) (spell.numbered spell.more_parameter 1 ts) (codes ")" ++ r))
    ∙ rw (
      ap (begins (codes "void")) (three_of (spell.before_name t) (codes "v") (decimal 0) rest) ∙ no_void t (codes "v" ++ (decimal 0 ++ rest)),
      parameter_own 0 t rest all.0,
      all_own (begins (codes ", ")) spell.more_parameter more_parameter IsType more_parameters 1 ts (codes ")" ++ r) all.1 refl refl,
    ) refl

head_pieces : (s t f n o p c r : List ℕ) → (s ++ t ++ (f ++ n) ++ o ++ p ++ c) ++ r ≡ s ++ (t ++ (f ++ (n ++ (o ++ (p ++ (c ++ r))))))
head_pieces s t f n o p c r = simp append_assoc

pub head_own : (n : ℕ) (result : Option CType) (params : List CType) (r : List ℕ) → IsTypeIfAny result → All IsType params
    → head n (spell.head n result params ++ r) ≡ Some (record { result = result; params = params }, r)
unfolding head
head_own n result params r ok all =
    ap (head n) (head_pieces (codes "static ") (spell.result_before_name result) (codes "f") (decimal n) (codes "(") (spell.parameters params) (codes ")") r)
    ∙ rw (
      result_before_name_own result (codes "f" ++ (decimal n ++ (codes "(" ++ (spell.parameters params ++ (codes ")" ++ r))))) ok,
      stripped_own (decimal n) (codes "(" ++ (spell.parameters params ++ (codes ")" ++ r))),
      parameters_own params r all,
    ) refl

pub prototype_own : (n : ℕ) (result : Option CType) (params : List CType) (r : List ℕ) → IsTypeIfAny result → All IsType params
    → prototype n (spell.prototype_text n (record { result = result; params = params }) ++ r) ≡ Some (record { result = result; params = params }, r)
unfolding prototype
prototype_own n result params r ok all =
    ap (prototype n) (three (spell.head n result params) (codes ";") (codes "\n") r) ∙ rw (head_own n result params (codes ";\n" ++ r) ok all) refl
