-- Elements that are added to a value.
use Rattle.std.specs.Prelude.{◌≡◌, pos, List, [], ◌++◌, map, Some, None, Result, Ok, Err}
use Rattle.pb_wire.specs.declared.payload.PayloadType.{PayloadType}
use Rattle.pb_wire.specs.declared.payload.PayloadType.TheVariants.{ScalarString, ScalarShort, ScalarFloat, ScalarEnum, ScalarByte, ScalarInt, ScalarDouble, WaveformString, WaveformShort, WaveformFloat, WaveformEnum, WaveformByte, WaveformInt, WaveformDouble}
use Rattle.pb_wire.specs.Message.{WireValue}
use Rattle.pb_messages.specs.declared.error.EventErr.{EventErr}
use Rattle.pb_messages.specs.declared.error.EventErr.TheVariants.{Fault, Memory}
use Rattle.pb_messages.specs.declared.value.Value.{Value}
use Rattle.pb_messages.specs.declared.value.Value.TheVariants.{Str, Short, Float, Enum, Byte, Int, Double, Strs, Shorts, Floats, Enums, Bytes, IntList, Doubles}
use Rattle.pb_messages.specs.Element.{int_of, bits32_of, bits64_of, bytes_of}
use Rattle.pb_messages.specs.Layout.{Elements}
use Rattle.pb_messages.specs.Event.{last_else}

-- The value before any element.
abbrev pub blank : PayloadType → Value
blank ScalarString = Str []
blank ScalarShort = Short (pos 0)
blank ScalarFloat = Float 0
blank ScalarEnum = Enum (pos 0)
blank ScalarByte = Byte []
blank ScalarInt = Int (pos 0)
blank ScalarDouble = Double 0
blank WaveformString = Strs []
blank WaveformShort = Shorts []
blank WaveformFloat = Floats []
blank WaveformEnum = Enums []
blank WaveformByte = Bytes []
blank WaveformInt = IntList []
blank WaveformDouble = Doubles []

-- The value with more elements: where there is one, the last holds, and lists have them in order.
abbrev pub with_elements : Value → List WireValue → Value
with_elements (Str b) es = Str (last_else b (map bytes_of es))
with_elements (Short n) es = Short (last_else n (map int_of es))
with_elements (Float n) es = Float (last_else n (map bits32_of es))
with_elements (Enum n) es = Enum (last_else n (map int_of es))
with_elements (Byte b) es = Byte (last_else b (map bytes_of es))
with_elements (Int n) es = Int (last_else n (map int_of es))
with_elements (Double n) es = Double (last_else n (map bits64_of es))
with_elements (Strs bs) es = Strs (bs ++ map bytes_of es)
with_elements (Shorts ns) es = Shorts (ns ++ map int_of es)
with_elements (Floats ns) es = Floats (ns ++ map bits32_of es)
with_elements (Enums ns) es = Enums (ns ++ map int_of es)
with_elements (Bytes b) es = Bytes (last_else b (map bytes_of es))
with_elements (IntList ns) es = IntList (ns ++ map int_of es)
with_elements (Doubles ns) es = Doubles (ns ++ map bits64_of es)

-- The new value has these elements behind those of the old, or their fault is told, unless memory ran out.
abbrev pub Adds : {X : Type 0} → Value → Value → Elements → Result X EventErr → Type 0
Adds old new elements (Ok x) = (elements.fault ≡ None) × (new ≡ with_elements old elements.values)
Adds old new elements (Err (Fault fault)) = elements.fault ≡ Some fault
Adds old new elements (Err Memory) = Unit {0}
