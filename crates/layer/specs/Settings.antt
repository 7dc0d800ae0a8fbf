-- What a call that changes a layer's settings does.
use Rattle.std.specs.Prelude.{◌≡◌, ℕ, List, Some, None, Ok, Err, codes, Option, Result}
use Rattle.interval.specs.Refusals.{number_of, text_of}
use Rattle.layer.specs.declared.settings.SettingFault.{SettingFault}
use Rattle.layer.specs.declared.settings.SettingFault.TheVariants.{Refused, NoSuchSetting}

-- the number of a fault; that there is no such setting has none
abbrev pub fault_number : SettingFault → Option ℕ
fault_number (Refused e) = Some (number_of e)
fault_number NoSuchSetting = None

-- what is printed of it
abbrev pub setting_text : SettingFault → List ℕ
setting_text (Refused e) = text_of e
setting_text NoSuchSetting = codes "the topmost layer has no such setting"

-- the fault is this refusal
abbrev pub IsRefused : Option ℕ → SettingFault → Type 0
IsRefused refusal (Refused e) = refusal ≡ fault_number (Refused e)
IsRefused refusal NoSuchSetting = ⊥

-- the settings as they are to be, or the refusal and the settings as they were
abbrev pub Sets : {M : Type 0} → Option ℕ → (next before after : M) → Result (Unit {0}) SettingFault → Type 0
Sets refusal next before after (Ok _) = (refusal ≡ None) × (after ≡ next)
Sets refusal next before after (Err f) = IsRefused refusal f × (after ≡ before)

-- there is no such setting: nothing changes
abbrev pub SetsNothing : {M : Type 0} → (before after : M) → Result (Unit {0}) SettingFault → Type 0
SetsNothing before after (Ok _) = ⊥
SetsNothing before after (Err (Refused e)) = ⊥
SetsNothing before after (Err NoSuchSetting) = after ≡ before
