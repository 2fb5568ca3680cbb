mod Choices
mod Languages
