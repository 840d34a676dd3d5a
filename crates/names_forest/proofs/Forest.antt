-- The bases of the classes of a program are classes, and come to an end.
use Rattle.std.proofs.Common.{◌≡◌, ℕ, ◌+◌, ◌-◌, ◌^◌, ◌<◌, zero, suc, List, [], ◌∷◌, ◌++◌, length, length-append, Bool, true, false, Option, Some, None, sym, ap, ◌∙◌, refl, arith, subst}
use Rattle.std.specs.Prelude.{nat_lt, slice_get}
use Rattle.std.proofs.lemmas.Grind.{common_steps}
use Rattle.rpy_tree.specs.declared.program.ClassInfo.{ClassInfo}
use Rattle.rpy_tree.specs.declared.program.Const.{Const}
use Rattle.rpy_tree.specs.declared.program.Program.{Program}
use Rattle.rpy_nodes.specs.declared.listing.Named.{Named}
use Rattle.class_desc.specs.Line as line
use Rattle.class_desc.specs.Range.{ends, IsForest}
use Rattle.names_bound.specs.Scopes.{base_in}
use Rattle.names_rules.specs.Bases as rule
use Rattle.names_rules.specs.Bindings.{Counts, none_before, count}
use Rattle.names_rules.specs.Members as member
use Rattle.names_rules.specs.Members.{What, Placed, members}
use Rattle.names_rules.specs.Program.{named_bases, bases}
use Rattle.names_value.specs.Machine.{narrow}
use Rattle.names_constants.specs.Faults.{constant_values}
use Rattle.names_whole.specs.Classes.{builtins_to, stated, class_info, classes_from, classes}
use Rattle.names_whole.specs.Functions.{as_number}
use Rattle.rpy_names.specs.Resolve.{prog}
use Rattle.names_forest.proofs.Ending.{kept_are, ends_in, ending}
use Rattle.names_whole.proofs.Numbers.{kept, builtins_many}
use Rattle.names_whole.proofs.Program.{program_is}
use Rattle.names_forest.proofs.Ranges.{named_many, named_are}

module _ (ks : List (Option ℕ)) (values : List (Option Const)) where
  abbrev from : Counts → List Placed → List ClassInfo
  from c ps = classes_from ks values c ps

  same_many : (xs : List ClassInfo) (ys : List rule.Stated) (rest : List ClassInfo) (more : List rule.Stated) → length xs ≡ length ys → length rest ≡ length more → length (xs ++ rest) ≡ length (ys ++ more)
  same_many xs ys rest more e f = length-append xs rest ∙ (λ j. e j + f j) ∙ sym (length-append ys more)

  one_many : (c : Counts) (p : Placed) (ps : List Placed) (w : What) → length (stated ks values c p ps w) ≡ length (rule.stated p w)
  one_many c p ps (member.Import of) = refl
  one_many c p ps (member.From path of) = refl
  one_many c p ps (member.Constant name v) = refl
  one_many c p ps (member.Def name qs star body) = refl
  one_many c p ps (member.Class name base) = refl

  from_many : (ps : List Placed) (c : Counts) → length (from c ps) ≡ length (rule.classes ps)
  from_many [] c = refl
  from_many (p ∷ ps) c = same_many (stated ks values c p ps p.what) (rule.stated p p.what) (from (count p.what c) ps) (rule.classes ps) (one_many c p ps p.what) (from_many ps (count p.what c))

  -- the base of each class that is stated
  abbrev Based : Counts → List ClassInfo → Type 0
  Based c xs = (i m : ℕ) → (c.classes + 13) + i ≡ m → i < length xs → line.base_in (slice_get xs i) ≡ as_number (base_in ks m)

  class_based : (c : Counts) (x : ClassInfo) (xs : List ClassInfo) → x.base ≡ as_number (base_in ks (c.classes + 13)) → ((i m : ℕ) → ((c.classes + 1) + 13) + i ≡ m → i < length xs → line.base_in (slice_get xs i) ≡ as_number (base_in ks m))
      → (i m : ℕ) → (c.classes + 13) + i ≡ m → i < length (x ∷ xs) → line.base_in (slice_get (x ∷ xs) i) ≡ as_number (base_in ks m)
  class_based c x xs b go zero m e lt = b ∙ ap (λ k. as_number (base_in ks k)) (nothing (c.classes + 13) m e) where
    nothing : (n m : ℕ) → n + 0 ≡ m → n ≡ m
    nothing n m e = omega (arith, e)
  class_based c x xs b go (suc i) m e lt = go i m (omega (arith, e)) (omega (arith, lt))

  stated_based : (c : Counts) (p : Placed) (ps : List Placed) (w : What) → Based (count w c) (from (count w c) ps) → Based c (stated ks values c p ps w ++ from (count w c) ps)
  stated_based c p ps (member.Import of) go = go
  stated_based c p ps (member.From path of) go = go
  stated_based c p ps (member.Constant name v) go = go
  stated_based c p ps (member.Def name qs star body) go = go
  stated_based c p ps (member.Class name base) go = class_based c (class_info ks values c p ps) (from (count (member.Class name base) c) ps) refl go

  from_based : (ps : List Placed) (c : Counts) → Based c (from c ps)
  from_based [] c i m e lt = absurd (omega (arith, lt))
  from_based (p ∷ ps) c i m e lt = stated_based c p ps p.what (from_based ps (count p.what c)) i m e lt

  abbrev all : List Placed → List ClassInfo
  all ps = builtins_to ks 13 ++ from none_before ps

  behind : (i m : ℕ) (ps : List Placed) → (0 + 13) + i ≡ m → i < length (from none_before ps) → line.base_in (slice_get (from none_before ps) i) ≡ as_number (base_in ks m)
  behind i m ps e lt = from_based ps none_before i m e lt

  all_many : (ps : List Placed) → length (all ps) ≡ 13 + length (from none_before ps)
  all_many ps = length-append (builtins_to ks 13) (from none_before ps) ∙ ap (λ n. n + length (from none_before ps)) (builtins_many ks 13)

  base_is : (c : ℕ) (ps : List Placed) → c < length (all ps) → line.base (all ps) c ≡ as_number (base_in ks c)
  base_is zero ps lt = refl
  base_is (suc zero) ps lt = refl
  base_is (suc (suc zero)) ps lt = refl
  base_is (suc (suc (suc zero))) ps lt = refl
  base_is (suc (suc (suc (suc zero)))) ps lt = refl
  base_is (suc (suc (suc (suc (suc zero))))) ps lt = refl
  base_is (suc (suc (suc (suc (suc (suc zero)))))) ps lt = refl
  base_is (suc (suc (suc (suc (suc (suc (suc zero))))))) ps lt = refl
  base_is (suc (suc (suc (suc (suc (suc (suc (suc zero)))))))) ps lt = refl
  base_is (suc (suc (suc (suc (suc (suc (suc (suc (suc zero))))))))) ps lt = refl
  base_is (suc (suc (suc (suc (suc (suc (suc (suc (suc (suc zero)))))))))) ps lt = refl
  base_is (suc (suc (suc (suc (suc (suc (suc (suc (suc (suc (suc zero))))))))))) ps lt = refl
  base_is (suc (suc (suc (suc (suc (suc (suc (suc (suc (suc (suc (suc zero)))))))))))) ps lt = refl
  base_is (suc (suc (suc (suc (suc (suc (suc (suc (suc (suc (suc (suc (suc i))))))))))))) ps lt = behind i (suc (suc (suc (suc (suc (suc (suc (suc (suc (suc (suc (suc (suc i))))))))))))) ps (sums i) (less i (length (from none_before ps)) (length (all ps)) (all_many ps) lt) where
    sums : (i : ℕ) → (0 + 13) + i ≡ suc (suc (suc (suc (suc (suc (suc (suc (suc (suc (suc (suc (suc i))))))))))))
    sums i = omega arith

    less : (i n m : ℕ) → m ≡ 13 + n → suc (suc (suc (suc (suc (suc (suc (suc (suc (suc (suc (suc (suc i)))))))))))) < m → i < n
    less i n m e h = omega (arith, e, h)

first_less : (n : ℕ) → nat_lt 0 (suc n) ≡ true
first_less n = grind (arith, common_steps)

later_less : (c n : ℕ) → nat_lt (suc c) (suc n) ≡ nat_lt c n
later_less c n = grind (arith, common_steps)

no_class : (xs : List ClassInfo) (c : ℕ) → nat_lt c (length xs) ≡ false → line.base xs c ≡ None
no_class [] zero h = refl
no_class [] (suc c) h = refl
no_class (x ∷ xs) zero h = absurd (clash (sym (first_less (length xs)) ∙ h)) where
  clash : true ≡ false → ⊥
  clash e = absurd cc
no_class (x ∷ xs) (suc c) h = no_class xs c (sym (later_less c (length xs)) ∙ h)

is_less : (c n : ℕ) → nat_lt c n ≡ true → c < n
is_less c n h = grind (arith, common_steps)

module _ (ms : List Named) (small : length (classes ms) < 2 ^ 32 - 1) where
  abbrev given : List (Option ℕ)
  given = named_bases ms

  abbrev all_classes : List ClassInfo
  all_classes = classes ms

  many : length all_classes ≡ length given
  many = all_many (bases ms) (constant_values ms) (members ms) ∙ ap (λ n. 13 + n) (from_many (bases ms) (constant_values ms) (members ms) none_before) ∙ sym (named_many ms)

  number_kept : (b : ℕ) → b < length given → narrow b ≡ b
  number_kept b h = kept b (below b (length all_classes) (length given) (2 ^ 32 - 1) h many small) where
    below : (b n m top : ℕ) → b < m → n ≡ m → n < top → b < top
    below b n m top h e f = omega (arith, h, e, f)

  in_given : (c b : ℕ) → base_in (bases ms) c ≡ Some b → b < length given
  in_given c b e = kept_are given (named_are ms) c b e

  some_same : (x y : ℕ) → Some x ≡ Some y → x ≡ y
  some_same x y e = ap (or_else x) e where
    or_else : ℕ → Option ℕ → ℕ
    or_else d None = d
    or_else d (Some z) = z

  -- each base is a class
  number_in : (o : Option ℕ) (b : ℕ) → ((x : ℕ) → o ≡ Some x → x < length given) → as_number o ≡ Some b → b < length given
  number_in None b h e = absurd cc
  number_in (Some x) b h e = subst (λ (y : ℕ). y < length given) (sym (number_kept x (h x refl)) ∙ some_same (narrow x) b e) (h x refl)

  base_by : (c b : ℕ) (t : Bool) → nat_lt c (length all_classes) ≡ t → line.base all_classes c ≡ Some b → b < length given
  base_by c b true t e = number_in (base_in (bases ms) c) b (λ x f. in_given c x f) (sym (base_is (bases ms) (constant_values ms) c (members ms) (is_less c (length all_classes) t)) ∙ e)
  base_by c b false t e = absurd (clash (sym (no_class all_classes c t) ∙ e)) where
    clash : None ≡ Some b → ⊥
    clash e = absurd cc

  -- the same way up
  same_end : (k c : ℕ) → c < length given → ends all_classes k (Some c) ≡ ends_in given (named_are ms) k (Some c)
  same_end zero c lt = refl
  same_end (suc k) c lt = ap (ends all_classes k) (base_is (bases ms) (constant_values ms) c (members ms) (subst (λ (n : ℕ). c < n) (sym many) lt)) ∙ by_base (base_in (bases ms) c) refl (λ b h. same_end k b h) where
    by_base : (o : Option ℕ) → base_in (bases ms) c ≡ o → ((b : ℕ) → b < length given → ends all_classes k (Some b) ≡ ends_in given (named_are ms) k (Some b)) → ends all_classes k (as_number o) ≡ ends_in given (named_are ms) k o
    by_base None e go = refl
    by_base (Some b) e go = ap (λ n. ends all_classes k (Some n)) (number_kept b (in_given c b e)) ∙ go b (in_given c b e)

  ends_at : (c : ℕ) → c < length all_classes → ends all_classes (length all_classes) (Some c) ≡ true
  ends_at c lt = let below : c < length given = subst (λ (n : ℕ). c < n) many lt in
      ap (λ n. ends all_classes n (Some c)) many ∙ same_end (length given) c below ∙ ending given (named_are ms) c below

  pub forest : IsForest all_classes
  forest = record { bases = λ c b e. subst (λ (n : ℕ). b < n) (sym many) (base_by c b (nat_lt c (length all_classes)) refl e); ending = ends_at }

-- in the program that the code gives
pub program_forest : (ms : List Named) (p : Program) → prog ms ≡ Some p → length p.classes < 2 ^ 32 - 1 → IsForest p.classes
program_forest ms p h small =
    let same : p.classes ≡ classes ms = ap (λ q. q.classes) (program_is ms p h) in
    subst (λ (xs : List ClassInfo). IsForest xs) (sym same) (forest ms (subst (λ (xs : List ClassInfo). length xs < 2 ^ 32 - 1) same small))
