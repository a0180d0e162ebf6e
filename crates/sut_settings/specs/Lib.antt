pub mod SettingsFacts
pub mod SettingsFile
pub mod IsSettings
pub mod SettingsView
