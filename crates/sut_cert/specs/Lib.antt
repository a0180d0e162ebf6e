pub mod Certificates
pub mod CertificateFile
pub mod CertificateText
pub mod Right
pub mod Laws
