-- What a value is, as far as its lowering asks.
use Rattle.std.specs.Prelude.{Bool, true, false, cond, Option, Some, None}
use Rattle.ann_element.specs.declared.element.Element.{Element}
use Rattle.ann_element.specs.declared.element.Element.TheVariants as e
use Rattle.rtyper_layout.specs.declared.kind.Kind.{Kind}
use Rattle.rtyper_layout.specs.declared.kind.Kind.TheVariants.{Word, Flag, Byte, Text, MaybeText, Nothing, Tuple, Instance, MaybeInstance, Function, MaybeFunction, List, MaybeList, Dict, MaybeDict, Never, Other}

abbrev pub of_list : Bool → Kind
of_list or_none = cond or_none MaybeList List

abbrev pub of_dict : Bool → Kind
of_dict or_none = cond or_none MaybeDict Dict

abbrev pub of_instance : Bool → Kind
of_instance or_none = cond or_none MaybeInstance Instance

abbrev pub of_function : Bool → Kind
of_function or_none = cond or_none MaybeFunction Function

abbrev pub kind_of : Element → Kind
kind_of e.Unreached = Never
kind_of e.NoneOnly = Nothing
kind_of e.KnownTrue = Flag
kind_of e.KnownFalse = Flag
kind_of e.Bool = Flag
kind_of e.IntPos = Word
kind_of e.Int = Word
kind_of e.Char = Byte
kind_of e.Str = Text
kind_of e.StrOrNone = MaybeText
kind_of (e.List site or_none) = of_list or_none
kind_of (e.Instance class or_none) = of_instance or_none
kind_of (e.Func functions or_none) = of_function or_none
kind_of (e.Dict site or_none) = of_dict or_none
kind_of (e.Conflict lists dicts) = Other
kind_of other = Tuple

abbrev pub kind_seen : Option Element → Kind
kind_seen None = Never
kind_seen (Some e) = kind_of e

abbrev pub is_text : Kind → Bool
is_text Byte = true
is_text Text = true
is_text kind = false

abbrev pub is_text_or_none : Kind → Bool
is_text_or_none Byte = true
is_text_or_none Text = true
is_text_or_none MaybeText = true
is_text_or_none Nothing = true
is_text_or_none kind = false
