-- What names stand for by their numbers is what the rules say.
use Rattle.std.proofs.Common.{◌≡◌, ℕ, codes, ◌+◌, suc, List, [], ◌∷◌, ◌++◌, Bool, true, false, Option, Some, None, sym, ap, ◌∙◌, refl, cond, arith}
use Rattle.std.specs.Prelude.{not, nat_eq, nat_le, nat_lt, ◌||◌, ◌&&◌, position, slice_get}
use Rattle.std.specs.List.{list_any}
use Rattle.std.specs.Str.{bytes_eq}
use Rattle.std.specs.Cmp.Lexicographic.{same_text}
use Rattle.std.proofs.lemmas.Grind.{common_steps}
use Rattle.rpy_nodes.specs.Names.{number}
use Rattle.rpy_nodes.specs.declared.listing.Named.{Named}
use Rattle.names_bound.specs.Scopes as code
use Rattle.names_bound.specs.declared.scopes.Scopes.{Scopes}
use Rattle.names_bound.specs.declared.stand.Stand.{Stand}
use Rattle.names_bound.specs.declared.stand.Stand.TheVariants as stand
use Rattle.names_found.specs.Finder as old
use Rattle.names_found.specs.declared.finder.Place.{Place}
use Rattle.names_found.specs.declared.part.Part.{Part}
use Rattle.names_rules.specs.Bindings.{Binding}
use Rattle.names_rules.specs.Events.{Names}
use Rattle.names_rules.specs.Listed.{names_of}
use Rattle.names_rules.specs.Locals.{Has}
use Rattle.names_rules.specs.Scopes as scope
use Rattle.names_rules.specs.Scopes.{FindsAlike}
use Rattle.names_rules.specs.Words.{words}
use Rattle.names_rules.proofs.Imports.{word}
use Rattle.names_rules.proofs.Words.{texts, others, all_begin}
use Rattle.names_constants.specs.Stands.{is_maker, makes, part_of, target_of, name_part, bound_part, attr_part, late_in}

-- ---- texts by their numbers

text_by : (b : Bool) (x text : List ℕ) (xs : Names) (n : ℕ) → (b ≡ true → text ≡ x) → (b ≡ false → slice_get xs n ≡ Some text) → slice_get (x ∷ xs) (cond (not b) (1 + n) 0) ≡ Some text
text_by true x text xs n p q = ap Some (sym (p refl))
text_by false x text xs n p q = let e : 1 + n ≡ suc n = omega arith in ap (slice_get (x ∷ xs)) e ∙ q refl

has_later : (b r : Bool) → (b || r) ≡ true → b ≡ false → r ≡ true
has_later true r h e = absurd cc
has_later false r h e = h

pub text_is : (names : Names) (text : List ℕ) → Has names text → slice_get names (number names text) ≡ Some text
text_is [] text has = absurd cc
text_is (x ∷ xs) text has = text_by (bytes_eq text x) x text xs (number xs text) (λ h. same_text text x (sym h)) (λ h. text_is xs text (has_later (bytes_eq text x) (list_any (bytes_eq text) xs) has h))

-- ---- the methods that make lists

seven : (n : ℕ) → (nat_le 37 n && nat_lt n 44) ≡ (nat_eq n 37 || (nat_eq n 38 || (nat_eq n 39 || (nat_eq n 40 || (nat_eq n 41 || (nat_eq n 42 || (nat_eq n 43 || false)))))))
seven n = grind (arith, common_steps)

makers_by : (ms : List Named) (begins : (rest : Names) × (names_of ms ≡ texts words ++ (others ++ rest))) (name : List ℕ) → (nat_le 37 (number (names_of ms) name) && nat_lt (number (names_of ms) name) 44) ≡ is_maker name
unfolding others
makers_by ms (rest, e) name = seven (number (names_of ms) name) ∙ (λ j.
    word (names_of ms) (others ++ rest) e (codes "split") 37 name refl refl j
    || (word (names_of ms) (others ++ rest) e (codes "keys") 38 name refl refl j
    || (word (names_of ms) (others ++ rest) e (codes "values") 39 name refl refl j
    || (word (names_of ms) (others ++ rest) e (codes "items") 40 name refl refl j
    || (word (names_of ms) (others ++ rest) e (codes "iterkeys") 41 name refl refl j
    || (word (names_of ms) (others ++ rest) e (codes "itervalues") 42 name refl refl j
    || (word (names_of ms) (others ++ rest) e (codes "iteritems") 43 name refl refl j || false)))))))

pub makers_are : (ms : List Named) (name : List ℕ) → (nat_le 37 (number (names_of ms) name) && nat_lt (number (names_of ms) name) 44) ≡ is_maker name
makers_are ms name = makers_by ms (all_begin ms) name

part_same : (o : Option ℕ) (s : Stand) (late : Bool) → (old.local_or o s late).part ≡ part_of o s late
part_same None s late = refl
part_same (Some local) s late = refl

target_same : (o : Option ℕ) → (old.bind_seen o).part ≡ target_of o
target_same None = refl
target_same (Some local) = refl

module _ (names : Names) (s : Scopes) (bs cs : List Binding)
    (globals : (file : ℕ) (name : List ℕ) → Has names name → FindsAlike names bs s file name)
    (dots : (of : Stand) (name : List ℕ) → Has names name → code.member s of (number names name) ≡ scope.member bs cs s.bases of name)
    (makers : (name : List ℕ) → (nat_le 37 (number names name) && nat_lt (number names name) 44) ≡ is_maker name) where
  makes_same : (of : Stand) (name : List ℕ) → old.makes_list of (number names name) ≡ makes of name
  makes_same stand.Nothing name = makers name
  makes_same other name = refl

  module _ (ls : List ℕ) (at : Place) (own : Names) (local_is : (name : List ℕ) → Has names name → old.local_in ls at (number names name) ≡ position (bytes_eq name) own) where
    pub name_is : (name : List ℕ) → Has names name → (old.name_seen s ls at (number names name)).part ≡ name_part bs cs s.bases at.file at.place own name
    name_is name has = part_same (old.local_in ls at (number names name)) (code.global s at.file (number names name)) (code.is_late s at.file at.place (number names name))
        ∙ (λ j. part_of (local_is name has j) ((globals at.file name has).1 j) ((globals at.file name has).2 at.place j))

    pub bind_is : (name : List ℕ) → Has names name → (old.bind_seen (old.local_in ls at (number names name))).part ≡ bound_part bs cs s.bases at.file at.place own name
    bind_is name has = target_same (old.local_in ls at (number names name)) ∙ ap target_of (local_is name has)

    late_same : (of : Stand) (name : List ℕ) → Has names name → old.is_late_in s at of (number names name) ≡ late_in bs cs s.bases at.file at.place own of name
    late_same (stand.Module file) name has = ap (λ b. nat_eq file at.file && b) ((globals at.file name has).2 at.place)
    late_same other name has = refl

    pub attr_is : (p : Part) (name : List ℕ) → Has names name → (old.attr_seen s at p (number names name)).part ≡ attr_part bs cs s.bases at.file at.place own p name
    attr_is p name has = λ j. record {
      stand = dots p.stand name has j;
      late = p.late || late_same p.stand name has j;
      makes = (ap (λ of. old.makes_list of (number names name)) (dots p.stand name has) ∙ makes_same (scope.member bs cs s.bases p.stand name) name) j;
    }
