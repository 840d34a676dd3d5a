-- Values under other numbers of functions.
use Rattle.std.proofs.Common.{◌≡◌, ◌≤◌, ℕ, zero, suc, Bool, true, false, ◌||◌, ◌==◌, List, [], ◌∷◌, length, map, replicate, Option, Some, None, Ok, Err, refl, sym, ap, ◌∙◌, arith, ℤ, pos, negsuc}
use Rattle.std.proofs.lemmas.Bool.Decides.{nat_tests}
use Rattle.std.specs.Int.{w64, int_bit_not}
use Rattle.rpy_base.specs.Word.{wrap}
use Rattle.csub_tree.specs.declared.stuck.StuckReason.TheVariants.{Unset as IsUnset, Word as BadWord}
use Rattle.std.specs.Prelude.{neg_ℤ, not, slice_get, slice_set, slice_index_or, nat_lt, cond, option_map, if◌then◌else◌}
use Rattle.csub_tree.specs.State.{Value, Unset, Byte, Fun}
use Rattle.csub_tree.specs.Layout.{constant}
use Rattle.csub_tree.specs.Operation.{Answer, given, on_words, on_flags, word, flag, to_byte, word_of_flag, same_flag, word_of, flag_of, byte_of, is_unset, same, compared, unary_of, binary_of}
use Rattle.csub_tree.specs.Checked.{gives_bool}
use Rattle.csub_tree.specs.Statement.{any_unset, bytes_of, before}
use Rattle.csub_tree.specs.declared.tree.CConst.{CConst}
use Rattle.csub_tree.specs.declared.tree.CConst.TheVariants as constant
use Rattle.csub_tree.specs.declared.tree.CUnary.{CUnary}
use Rattle.csub_tree.specs.declared.tree.CUnary.TheVariants as one
use Rattle.csub_tree.specs.declared.tree.CBinary.{CBinary}
use Rattle.csub_tree.specs.declared.tree.CBinary.TheVariants as two
use Rattle.ll_code.specs.declared.program.LlType.TheVariants as type
use Rattle.ll_code.specs.declared.program.LlProgram.{LlProgram}
use Rattle.ll_laws.specs.Fits.{AnswerFits}
use Rattle.ll_laws.proofs.Values.{binary_fits}
use Rattle.genc_lower.specs.Lower as lower
use Rattle.genc_lower.specs.Lower.{function_of}
use Rattle.genc_lower.specs.declared.order.Order.{Order}
use Rattle.genc_laws.specs.Same.{renamed, answer_renamed}

-- ---- lists

pub length_map : {A B : Type 0} (f : A → B) (xs : List A) → length (map f xs) ≡ length xs
length_map f [] = refl
length_map f (x ∷ xs) = ap suc (length_map f xs)

pub index_map : {A B : Type 0} (f : A → B) (xs : List A) (n : ℕ) (d : A) → slice_index_or (map f xs) n (f d) ≡ f (slice_index_or xs n d)
index_map f [] n d = refl
index_map f (x ∷ xs) zero d = refl
index_map f (x ∷ xs) (suc n) d = index_map f xs n d

pub get_map : {A B : Type 0} (f : A → B) (xs : List A) (n : ℕ) → slice_get (map f xs) n ≡ option_map f (slice_get xs n)
get_map f [] n = refl
get_map f (x ∷ xs) zero = refl
get_map f (x ∷ xs) (suc n) = get_map f xs n

pub set_map : {A B : Type 0} (f : A → B) (xs : List A) (n : ℕ) (x : A) → slice_set (map f xs) n (f x) ≡ map f (slice_set xs n x)
set_map f [] n x = refl
set_map f (y ∷ xs) zero x = refl
set_map f (y ∷ xs) (suc n) x = ap (λ l. f y ∷ l) (set_map f xs n x)

-- ---- tests

pub equals : (m n : ℕ) → m ≡ n → (m == n) ≡ true
equals m n e = grind arith

pub differs : (m n : ℕ) → (m == n) ≡ false → (m ≡ n) → ⊥
differs m n e f = grind arith

-- ---- one value

module _ (order : Order) where
  pub unset_same : (x : Value) → is_unset (renamed order x) ≡ is_unset x
  unset_same (Fun f) = refl
  unset_same other = refl

  pub word_same : (x : Value) → word_of (renamed order x) ≡ word_of x
  word_same (Fun f) = refl
  word_same other = refl

  pub flag_same : (x : Value) → flag_of (renamed order x) ≡ flag_of x
  flag_same (Fun f) = refl
  flag_same other = refl

  pub byte_same : (x : Value) → byte_of (renamed order x) ≡ byte_of x
  byte_same (Fun f) = refl
  byte_same other = refl

  pub constant_same : (c : CConst) → constant (lower.constant order c) ≡ renamed order (constant c)
  constant_same (constant.Fun f) = refl
  constant_same other = refl

  pub any_unset_same : (xs : List Value) → any_unset (map (renamed order) xs) ≡ any_unset xs
  any_unset_same [] = refl
  any_unset_same (x ∷ xs) = ap (λ b. b || any_unset (map (renamed order) xs)) (unset_same x) ∙ ap (λ b. is_unset x || b) (any_unset_same xs)

  pub bytes_same : (xs : List Value) → bytes_of (map (renamed order) xs) ≡ bytes_of xs
  bytes_same [] = refl
  bytes_same (x ∷ xs) = ap (λ b. before b (bytes_of (map (renamed order) xs))) (byte_same x) ∙ ap (before (byte_of x)) (bytes_same xs)

  pub filled_same : (n : ℕ) → map (renamed order) (replicate n Unset) ≡ replicate n Unset
  filled_same zero = refl
  filled_same (suc n) = ap (λ l. Unset ∷ l) (filled_same n)

  -- ---- operators

  plain_given : {X : Type 0} (f : X → Answer) (o : Option X) → ((x : X) → answer_renamed order (f x) ≡ f x) → answer_renamed order (given f o) ≡ given f o
  plain_given f None h = refl
  plain_given f (Some x) h = h x

  given_same : {X : Type 0} (f : X → Answer) (o c_o : Option X) → c_o ≡ o → ((x : X) → answer_renamed order (f x) ≡ f x) → given f c_o ≡ answer_renamed order (given f o)
  given_same f o c_o e h = ap (given f) e ∙ sym (plain_given f o h)

  byte_plain : (z : ℤ) → answer_renamed order (to_byte z) ≡ to_byte z
  byte_plain (pos n) = choice (nat_lt n 256)
    where
      choice : (b : Bool) → answer_renamed order (cond b (Ok (Byte n)) (Err BadWord)) ≡ cond b (Ok (Byte n)) (Err BadWord)
      choice true = refl
      choice false = refl
  byte_plain (negsuc n) = refl

  pub unary_same : (o : CUnary) (x : Value) → unary_of o (renamed order x) ≡ answer_renamed order (unary_of o x)
  unary_same one.Neg x = given_same (λ a. word (wrap (neg_ℤ a))) (word_of x) (word_of (renamed order x)) (word_same x) (λ a. refl)
  unary_same one.Inv x = given_same (λ a. word (int_bit_not w64 a)) (word_of x) (word_of (renamed order x)) (word_same x) (λ a. refl)
  unary_same one.Not x = given_same (λ a. flag (not a)) (flag_of x) (flag_of (renamed order x)) (flag_same x) (λ a. refl)
  unary_same one.C2S x = given_same (λ a. word (pos a)) (byte_of x) (byte_of (renamed order x)) (byte_same x) (λ a. refl)
  unary_same one.S2C x = given_same to_byte (word_of x) (word_of (renamed order x)) (word_same x) byte_plain
  unary_same one.B2S x = given_same (λ a. word (word_of_flag a)) (flag_of x) (flag_of (renamed order x)) (flag_same x) (λ a. refl)

  -- a function value is that of a graph
  abbrev pub Known : Value → Type 0
  Known (Fun f) = f ≤ order.last
  Known other = Unit {0}

  pub function_same : order.entry ≤ order.last → (f g : ℕ) → f ≤ order.last → g ≤ order.last → (function_of order f == function_of order g) ≡ (f == g)
  function_same le f g lf lg = grind (arith, nat_tests)

  same_same : order.entry ≤ order.last → (x y : Value) → Known x → Known y → same (renamed order x) (renamed order y) ≡ same x y
  same_same le (Fun f) (Fun g) h k = function_same le f g h k
  same_same le x (Fun g) h k = refl
  same_same le x y h k = refl

  compared_same : order.entry ≤ order.last → (x y : Value) → Known x → Known y → compared (renamed order x) (renamed order y) ≡ compared x y
  compared_same le x y h k =
      ap (λ b. cond (b || is_unset (renamed order y)) (Err IsUnset) (flag (same (renamed order x) (renamed order y)))) (unset_same x)
      ∙ ap (λ b. cond (is_unset x || b) (Err IsUnset) (flag (same (renamed order x) (renamed order y)))) (unset_same y)
      ∙ ap (λ b. cond (is_unset x || is_unset y) (Err IsUnset) (flag b)) (same_same le x y h k)

  words_same : (f : ℤ → ℤ → Answer) (x y : Value) → on_words f (renamed order x) (renamed order y) ≡ on_words f x y
  words_same f x y =
      ap (λ o. given (λ a. given (λ b. f a b) (word_of (renamed order y))) o) (word_same x) ∙ ap (λ o. given (λ a. given (λ b. f a b) o) (word_of x)) (word_same y)

  flags_same : (f : Bool → Bool → Answer) (x y : Value) → on_flags f (renamed order x) (renamed order y) ≡ on_flags f x y
  flags_same f x y =
      ap (λ o. given (λ a. given (λ b. f a b) (flag_of (renamed order y))) o) (flag_same x) ∙ ap (λ o. given (λ a. given (λ b. f a b) o) (flag_of x)) (flag_same y)

  answers_same : order.entry ≤ order.last → (o : CBinary) (x y : Value) → Known x → Known y → binary_of o (renamed order x) (renamed order y) ≡ binary_of o x y
  answers_same le two.Beq x y h k = flags_same (λ a b. flag (same_flag a b)) x y
  answers_same le two.Peq x y h k = compared_same le x y h k
  answers_same le two.Feq x y h k = compared_same le x y h k
  answers_same le o x y h k = words_same _ x y

  plain_answer : (p : LlProgram) (b : Bool) (a : Answer) → AnswerFits p 0 (if b then type.Bool else type.Signed) a → answer_renamed order a ≡ a
  plain_answer p true (Ok (Fun f)) h = absurd h
  plain_answer p false (Ok (Fun f)) h = absurd h
  plain_answer p b (Ok value) h = refl
  plain_answer p b (Err reason) h = refl

  pub binary_same : (p : LlProgram) → order.entry ≤ order.last → (o : CBinary) (x y : Value) → Known x → Known y → binary_of o (renamed order x) (renamed order y) ≡ answer_renamed order (binary_of o x y)
  binary_same p le o x y h k = answers_same le o x y h k ∙ sym (plain_answer p (gives_bool o) (binary_of o x y) (binary_fits p 0 o x y))
