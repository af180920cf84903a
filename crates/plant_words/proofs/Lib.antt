pub mod OptionsLemmas
pub mod SettingLemmas
pub mod CommandLemmas
